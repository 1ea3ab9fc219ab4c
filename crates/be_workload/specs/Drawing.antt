-- What is drawn and written, in this order: each definition takes what was written so far, and answers what is then.
use Rattle.std.specs.Prelude.{ℕ, ◌+◌, ◌-◌, ◌%◌, ◌==◌, zero, suc, [], ◌∷◌, ◌++◌, codes, decimal, min, nat_lt, if◌then◌else◌}
use Rattle.be_base.specs.Text.{Text}
use Rattle.be_workload.specs.declared.drawing.TheConstants.{ATTRIBUTES, VALUES}
use Rattle.rand_xoshiro.specs.SplitMix64.{mix_u64}

pub record Script : Type 0 where
  -- of SplitMix64
  pub state : ℕ
  pub text : Text
  -- the items of the event that is being drawn
  pub event : Text

-- the next word modulo this number, and what is then
unfoldable pub draw : ℕ → Script → ℕ × Script
draw below s = ((mix_u64 s.state).0 % below, record s { state = (mix_u64 s.state).1 })

abbrev pub put : Text → Script → Script
put text s = record s { text = s.text ++ text }

-- a drawn value of an attribute, behind this text
abbrev pub put_value : Text → Script → Script
put_value front s = put (front ++ decimal (draw VALUES s).0) (draw VALUES s).1

-- x, and y that is at most 49 greater and within the domain
unfoldable pub between : Script → Script
between s =
    let x = draw VALUES s in
    let more = draw 50 x.1 in
    put (codes " between " ++ decimal x.0 ++ codes " and " ++ decimal (min (VALUES - 1) (x.0 + more.0))) more.1

-- three values as drawn: doubles stay
unfoldable pub in_set : Script → Script
in_set s = put (codes "}") (put_value (codes ",") (put_value (codes ",") (put_value (codes " in {") s)))

-- a comparison of this kind
abbrev pub compared : ℕ → Script → Script
compared kind s =
    if kind == 0 then put_value (codes " = ") s else
    (if kind == 1 then between s else
    (if kind == 2 then put_value (codes " <= ") s else
    (if kind == 3 then put_value (codes " >= ") s else in_set s)))

unfoldable pub predicate : Script → Script
predicate s =
    let attr = draw ATTRIBUTES s in
    let kind = draw 5 (put (codes "a" ++ decimal attr.0) attr.1) in
    compared kind.0 kind.1

-- a predicate, and so many more
abbrev pub predicates : ℕ → Script → Script
predicates zero s = predicate s
predicates (suc more) s = predicate (put (codes " and ") (predicates more s))

-- one to four predicates
unfoldable pub expression : Script → Script
expression s = predicates (draw 4 s).0 (draw 4 s).1

unfoldable pub subscription : ℕ → Script → Script
subscription i s = put (codes "\n") (expression (put (codes "SUB s" ++ decimal i ++ codes " ") s))

-- the lines of the first ones
abbrev pub subscriptions : ℕ → Script → Script
subscriptions zero s = s
subscriptions (suc i) s = subscription i (subscriptions i s)

-- what stands before an item
abbrev pub gap : Text → Text
gap [] = []
gap (b ∷ event) = codes " "

abbrev pub put_item : ℕ → ℕ → Script → Script
put_item attr value s = record s { event = s.event ++ (gap s.event ++ codes "a" ++ decimal attr ++ codes "=" ++ decimal value) }

-- eight times in ten the event assigns the attribute
unfoldable pub item : ℕ → Script → Script
item attr s =
    let chance = draw 10 s in
    if nat_lt chance.0 8 then put_item attr (draw VALUES chance.1).0 (draw VALUES chance.1).1 else chance.1

-- the items of the first attributes
abbrev pub items : ℕ → Script → Script
items zero s = record s { event = [] }
items (suc attr) s = item attr (items attr s)

-- an event's canonical text
abbrev pub event_text : Text → Text
event_text [] = codes "-"
event_text (b ∷ event) = b ∷ event

abbrev pub put_event : Script → Script
put_event s = put (codes "PUB " ++ event_text s.event ++ codes "\nCOST " ++ event_text s.event ++ codes "\n") s

unfoldable pub event : Script → Script
event s = put_event (items ATTRIBUTES s)

-- the lines of so many
abbrev pub events : ℕ → Script → Script
events zero s = s
events (suc n) s = event (events n s)
