-- What a press is handed of a list.
use Rattle.std.proofs.Common.{◌≡◌, ◌++◌, ◌∷◌, [], List, sym, ap, ◌∙◌, subst, append_assoc}
use Rattle.std.proofs.lemmas.List.{map-append}
use Rattle.std.proofs.lemmas.List.Folds.{list_all-append}
use Rattle.std.proofs.lemmas.Bool.{and_parts}
use Rattle.std.specs.Arc.{arc_value}
use Rattle.std.specs.declared.sync.Arc.{Arc}
use Rattle.rtrb.specs.Ring.{SameConsumer}
use Rattle.rtrb.specs.declared.consumer.Consumer.{Consumer}
use Rattle.be_base.specs.Lists.{BeginsWith}
use Rattle.be_base.proofs.Beginnings.{BeginsWith-same, BeginsWith-along}
use Rattle.be_model.specs.Schemas.{Attributes}
use Rattle.be_model.specs.declared.changes.Change.{Change}
use Rattle.be_change.specs.Entries.{entry_of, entries_in}
use Rattle.be_change.specs.History.{Entry}
use Rattle.be_change.specs.Sound.{Sound, MayAppend, all_lie, entry_lies}
use Rattle.be_change.proofs.Forms.{formed_front, sound_append, sound_last}

-- the next of the changes that are to be handed may follow
next_may : (s : Attributes) (h more : List Entry) (e : Entry) → Sound s (h ++ e ∷ more) → MayAppend s h e
next_may s h more e sound =
    let all : h ++ e ∷ more ≡ (h ++ e ∷ []) ++ more = sym (append_assoc h (e ∷ []) more) in
    let whole : Sound s ((h ++ e ∷ []) ++ more) = subst (λ (x : List Entry). Sound s x) all sound in
    sound_last s h e (record {
      formed = formed_front (h ++ e ∷ []) more whole.formed;
      lies = (and_parts (all_lie s (h ++ e ∷ [])) (all_lie s more) (sym (list_all-append (entry_lies s) (h ++ e ∷ []) more) ∙ whole.lies)).0;
    })

entries-append : {Z : Type 0} (xs ys : List (Arc Change Z)) → entries_in (xs ++ ys) ≡ entries_in xs ++ entries_in ys
entries-append xs ys = map-append (λ y. entry_of (arc_value y)) xs ys

pub entries_on : {Z : Type 0} (xs : List (Arc Change Z)) (x : Arc Change Z) → entries_in (xs ++ x ∷ []) ≡ entries_in xs ++ entry_of (arc_value x) ∷ []
entries_on xs x = entries-append xs (x ∷ [])

-- one more that may come next leaves them sound
pub sound_on : {Z : Type 0} (s : Attributes) (xs : List (Arc Change Z)) (x : Arc Change Z) → Sound s (entries_in xs) → MayAppend s (entries_in xs) (entry_of (arc_value x)) → Sound s (entries_in (xs ++ x ∷ []))
sound_on s xs x sound may = subst (λ (l : List Entry). Sound s l) (sym (entries_on xs x)) (sound_append s (entries_in xs) (entry_of (arc_value x)) sound may)

-- a list that begins with what was put into a ring begins with what came out of it, and with what was made of that
pub ring_begins : {Z : Type 0} (list has : List Entry) (put put' out out' known : List (Arc Change Z)) → out' ≡ out → put' ≡ put → out' ++ known ≡ put' → BeginsWith list (entries_in put) → BeginsWith (entries_in out) has → BeginsWith list has
ring_begins list has put put' out out' known same_out same_put fifo all made =
    let fifo : out ++ known ≡ put = ap (λ l. l ++ known) (sym same_out) ∙ (fifo ∙ same_put) in
    BeginsWith-along list (entries_in put) has all
    (BeginsWith-along (entries_in put) (entries_in out) has (entries_in known, ap (λ l. entries_in l) (sym fifo) ∙ entries-append out known) made)

-- of the changes some were handed, and then these are left
module _ {Z : Type 0} (h g : List Entry) (items handed more : List (Arc Change Z)) (split : items ≡ handed ++ more) (has : g ≡ h ++ entries_in handed) where
  handed_all : h ++ entries_in items ≡ g ++ entries_in more
  handed_all =
      ap (λ (l : List (Arc Change Z)). h ++ entries_in l) split
      ∙ (ap (λ (l : List Entry). h ++ l) (entries-append handed more) ∙ (sym (append_assoc h (entries_in handed) (entries_in more)) ∙ ap (λ (l : List Entry). l ++ entries_in more) (sym has)))

  pub handed_begins : BeginsWith (h ++ entries_in items) g
  handed_begins = (entries_in more, handed_all)

pub handed_may : {Z : Type 0} (s : Attributes) (h g : List Entry) (items handed more : List (Arc Change Z)) (x : Arc Change Z) → items ≡ handed ++ x ∷ more → g ≡ h ++ entries_in handed → Sound s (h ++ entries_in items)
    → MayAppend s g (entry_of (arc_value x))
handed_may s h g items handed more x split has sound =
    next_may s g (entries_in more) (entry_of (arc_value x)) (subst (λ (l : List Entry). Sound s l) (handed_all h g items handed (x ∷ more) split has) sound)

-- one more was handed
pub handed_on : {Z : Type 0} (h g next : List Entry) (handed : List (Arc Change Z)) (x : Arc Change Z) → g ≡ h ++ entries_in handed → next ≡ g ++ entry_of (arc_value x) ∷ [] → next ≡ h ++ entries_in (handed ++ x ∷ [])
handed_on h g next handed x has put =
    put
    ∙ (ap (λ (l : List Entry). l ++ entry_of (arc_value x) ∷ []) has
    ∙ (append_assoc h (entries_in handed) (entry_of (arc_value x) ∷ []) ∙ ap (λ (l : List Entry). h ++ l) (sym (entries-append handed (x ∷ [])))))

-- what a press has, and what readers see of it, before and after
module _ (list list' seen seen' : List Entry) (grows : BeginsWith list' list) (was : BeginsWith list seen) where
  -- readers see what they saw
  pub still_seen : seen' ≡ seen → BeginsWith list' seen'
  still_seen is = subst (λ (x : List Entry). BeginsWith list' x) (sym is) (BeginsWith-along list' list seen grows was)

  pub still_kept : seen' ≡ seen → BeginsWith seen' seen
  still_kept is = subst (λ (x : List Entry). BeginsWith x seen) (sym is) (BeginsWith-same seen)

  -- readers see all
  pub all_kept : seen' ≡ list' → BeginsWith seen' seen
  all_kept is = subst (λ (x : List Entry). BeginsWith x seen) (sym is) (BeginsWith-along list' list seen grows was)

-- an end of a ring that is the same after two steps
module _ {T A P : Type 0} where
  pub taker_along : (a b c : Consumer T A P) → SameConsumer a b → SameConsumer b c → SameConsumer a c
  taker_along a b c p q = ((q.0.0 ∙ p.0.0, q.0.1 ∙ p.0.1, q.0.2 ∙ p.0.2, q.0.3 ∙ p.0.3), q.1 ∙ p.1)
