-- What is drawn as an event is the canonical text of an event of the schema.
use Rattle.std.proofs.Common.{◌≡◌, ℕ, ℤ, zero, suc, pos, ◌+◌, ◌*◌, ◌<◌, ◌≤◌, Bool, true, ltb, List, [], ◌∷◌, ◌++◌, length, length-append, All, Option, Some, None, Ok, append_assoc, append-nil, option_map, refl, sym, ap, ◌∙◌, subst, arith, codes, decimal}
use Rattle.std.specs.List.{list_all, flat_map, join_by}
use Rattle.std.specs.Option.{option_map_or}
use Rattle.std.proofs.lemmas.Bool.{cond_both, and_from, and_parts, ltb-true, lt-ltb}
use Rattle.std.proofs.lemmas.Grind.{flat_map-append}
use Rattle.std.proofs.lemmas.List.Elements.{All-nil, All-push}
use Rattle.std.proofs.lemmas.List.Folds.{list_all-append}
use Rattle.be_base.specs.Text.{Text}
use Rattle.be_base.specs.Tokens.{Lexeme, tokens}
use Rattle.be_base.specs.declared.names.AttrNo.{AttrNo}
use Rattle.be_model.specs.declared.schemas.Attribute.{Attribute}
use Rattle.be_model.specs.Forms.{AreValues, IsEvent, attrs_rise}
use Rattle.be_model.specs.Lies.{lies_in, item_lies, event_lies}
use Rattle.be_model.specs.Domains.{bounds_of, is_within}
use Rattle.be_model.specs.Matching.{Assignments, attrs_of}
use Rattle.be_model.specs.Schemas.{numbered}
use Rattle.be_model.specs.Texts.{value_text, value_text_at, name_at}
use Rattle.be_event.specs.Events.{event_of, event as event_read}
use Rattle.be_event.specs.Writing.{given_text, item_text, event_text as canonical}
use Rattle.be_event.proofs.RoundTrip.{texts_are_read}
use Rattle.be_workload.specs.Drawing.{Script, draw, gap, put_item, item, items, event_text}
use Rattle.be_workload.specs.Asked.{schema, IsOfSchema}
use Rattle.be_workload.proofs.Attributes.{attribute_text, attributes, value_is_within, schema_is_schema, schema_names}
use Rattle.be_workload.proofs.Ops.{draw_small}
use Rattle.be_workload.proofs.Plain.{IsPlain, plain_append, plain_within, value_plain}

abbrev pub Item : Type 0
Item = AttrNo × List ℤ

abbrev pub items_text : Assignments → Text
items_text e = join_by (item_text schema) (codes " ") e

-- each item is of an attribute before this one
abbrev pub all_before : ℕ → Assignments → Bool
all_before n e = list_all (λ (i : Item). ltb i.0.0 n) e

abbrev pub HasValues : Item → Type 0
HasValues i = AreValues i.1

-- the items of the first attributes, with their text
pub record AreItems (n : ℕ) (text : Text) : Type 0 where
  pub event : Assignments
  pub spelled : text ≡ items_text event
  pub rises : attrs_rise (attrs_of event) ≡ true
  pub before : all_before n event ≡ true
  pub sets : All HasValues event
  pub lies : event_lies schema event ≡ true
  pub plain : IsPlain (n * 7) text

no_items : AreItems 0 []
no_items = record {
  event = [];
  spelled = refl;
  rises = refl;
  before = refl;
  sets = All-nil HasValues;
  lies = refl;
  plain = record { bytes = refl; short = omega arith };
}

before_later : (n : ℕ) (e : Assignments) → all_before n e ≡ true → all_before (suc n) e ≡ true
before_later n [] h = refl
before_later n (i ∷ e) h =
    let parts = and_parts (ltb i.0.0 n) (all_before n e) h in
    and_from (ltb i.0.0 (suc n)) (all_before (suc n) e) (lt-ltb i.0.0 (suc n) (omega (arith, ltb-true i.0.0 n parts.0))) (before_later n e parts.1)

-- an attribute that isn't assigned
items_later : (n : ℕ) (text : Text) → AreItems n text → AreItems (suc n) text
items_later n text k = record {
  event = k.event;
  spelled = k.spelled;
  rises = k.rises;
  before = before_later n k.event k.before;
  sets = k.sets;
  lies = k.lies;
  plain = plain_within (n * 7) (suc n * 7) text (omega arith) k.plain;
}

abbrev item_of : ℕ → ℕ → Item
item_of n v = (numbered n, pos v ∷ [])

item_spelled : (n v : ℕ) → n < 10 → item_text schema (item_of n v) ≡ attribute_text n ++ codes "=" ++ decimal v
item_spelled n v at =
    ap (λ (o : Option Attribute). option_map_or (λ (x : Attribute). x.name) o [] ++ codes "=" ++ option_map_or (λ (x : Attribute). value_text x.domain (pos v)) o []) (attributes n at).stands

rises_snoc : (e : Assignments) (i : Item) → attrs_rise (attrs_of e) ≡ true → all_before i.0.0 e ≡ true → attrs_rise (attrs_of (e ++ i ∷ [])) ≡ true
rises_snoc [] i h k = refl
rises_snoc (x ∷ []) i h k = k
rises_snoc (x ∷ y ∷ e) i h k =
    let parts = and_parts (ltb x.0.0 y.0.0) (attrs_rise (attrs_of (y ∷ e))) h in
    and_from (ltb x.0.0 y.0.0) (attrs_rise (attrs_of (y ∷ (e ++ i ∷ [])))) parts.0
    (rises_snoc (y ∷ e) i parts.1 (and_parts (ltb x.0.0 i.0.0) (all_before i.0.0 (y ∷ e)) k).1)

gap_some : (text : Text) → 0 < length text → gap text ≡ codes " "
gap_some [] h = absurd (omega arith)
gap_some (b ∷ text) h = refl

gap_plain : (text : Text) → IsPlain 1 (gap text)
gap_plain [] = record { bytes = refl; short = omega arith }
gap_plain (b ∷ text) = record { bytes = refl; short = omega arith }

-- an item's text isn't empty
item_some : (i : Item) → 0 < length (item_text schema i)
item_some i =
    let name = name_at schema i.0 in
    let given = given_text (value_text_at schema i.0) i.1 in
    omega (arith, length-append (name ++ codes "=") given, length-append name (codes "="))

items_text-snoc : (e : Assignments) (i : Item) → items_text (e ++ i ∷ []) ≡ items_text e ++ (gap (items_text e) ++ item_text schema i)
items_text-snoc [] i = append-nil (item_text schema i)
items_text-snoc (x ∷ e) i =
    let spaced = λ (y : Item). codes " " ++ item_text schema y in
    let first = item_text schema x in
    let some : 0 < length (first ++ flat_map spaced e) = omega (arith, item_some x, length-append first (flat_map spaced e)) in
    ap (λ (t : Text). first ++ t) (flat_map-append spaced e (i ∷ []) ∙ ap (λ (t : Text). flat_map spaced e ++ t) (append-nil (codes " " ++ item_text schema i)))
    ∙ sym (append_assoc first (flat_map spaced e) (codes " " ++ item_text schema i))
    ∙ ap (λ (g : Text). (first ++ flat_map spaced e) ++ (g ++ item_text schema i)) (sym (gap_some (first ++ flat_map spaced e) some))

one_lies : (n v : ℕ) → n < 10 → v < 1000 → item_lies schema (item_of n v) ≡ true
one_lies n v at small =
    ap (λ (o : Option Attribute). lies_in (option_map (λ (x : Attribute). bounds_of x.domain) o) (pos v ∷ [])) (attributes n at).stands
    ∙ and_from (is_within (pos 0, pos 999) (pos v)) true (value_is_within v small) refl

item_joined : (g a n v : Text) → g ++ a ++ n ++ codes "=" ++ v ≡ g ++ ((a ++ n) ++ codes "=" ++ v)
item_joined g a n v = simp append_assoc

-- an attribute that is assigned
items_more : (n v : ℕ) (text : Text) → n < 10 → v < 1000 → AreItems n text
    → AreItems (suc n) (text ++ (gap text ++ codes "a" ++ decimal n ++ codes "=" ++ decimal v))
items_more n v text at small k =
    let i = item_of n v in
    let own = attribute_text n ++ codes "=" ++ decimal v in
    let joined = item_joined (gap text) (codes "a") (decimal n) (decimal v) in
    record {
      event = k.event ++ i ∷ [];
      spelled =
          ap (λ (t : Text). text ++ t) joined
          ∙ ap (λ (t : Text). text ++ (gap text ++ t)) (sym (item_spelled n v at))
          ∙ ap (λ (t : Text). t ++ (gap t ++ item_text schema i)) k.spelled
          ∙ sym (items_text-snoc k.event i);
      rises = rises_snoc k.event i k.rises k.before;
      before = list_all-append (λ (j : Item). ltb j.0.0 (suc n)) k.event (i ∷ [])
          ∙ and_from (all_before (suc n) k.event) _ (before_later n k.event k.before) (and_from (ltb n (suc n)) true (lt-ltb n (suc n) (omega arith)) refl);
      sets = All-push HasValues k.event i k.sets (record { some = omega arith; few = omega arith; rising = refl });
      lies = list_all-append (item_lies schema) k.event (i ∷ []) ∙ and_from (event_lies schema k.event) _ k.lies (and_from (item_lies schema i) true (one_lies n v at small) refl);
      plain = plain_within (n * 7 + (1 + (3 + 3))) (suc n * 7) _ (omega arith)
          (plain_append (n * 7) (1 + (3 + 3)) text _ k.plain
          (subst (IsPlain (1 + (3 + 3))) (sym joined)
          (plain_append 1 (3 + 3) (gap text) own (gap_plain text)
          (plain_append 3 3 (attribute_text n ++ codes "=") (decimal v)
          (plain_append 2 1 (attribute_text n) (codes "=") (attributes n at).plain (record { bytes = refl; short = omega arith })) (value_plain v small)))));
    }

-- items are drawn, and nothing is written
pub record Draws (n : ℕ) (s t : Script) : Type 0 where
  pub written : t.text ≡ s.text
  pub items_are : AreItems n t.event

item_draws : (n : ℕ) (s : Script) → n < 10 → AreItems n s.event → Draws (suc n) s (item n s)
unfolding draw item
item_draws n s at k =
    let chance = draw 10 s in
    let value = draw 1000 chance.1 in
    cond_both (ltb chance.0 8) (put_item n value.0 value.1) chance.1 (Draws (suc n) s)
    (λ _. record { written = refl; items_are = items_more n value.0 s.event at (draw_small 1000 chance.1 (omega arith)) k })
    (λ _. record { written = refl; items_are = items_later n s.event k })

pub items_draw : (n : ℕ) (s : Script) → n ≤ 10 → Draws n s (items n s)
items_draw zero s few = record { written = refl; items_are = no_items }
items_draw (suc n) s few =
    let front = items_draw n s (omega arith) in
    let last = item_draws n (items n s) (omega arith) front.items_are in
    record { written = last.written ∙ front.written; items_are = last.items_are }

-- the text of an event of the schema
pub record IsEventText (text : Text) : Type 0 where
  pub event : Assignments
  pub words : List Lexeme
  pub lexed : tokens text ≡ Some words
  pub read : event_of schema (Some words) ≡ Ok event
  pub of_schema : IsOfSchema event
  pub plain : IsPlain 70 text

-- a text that is read has tokens
record HasTokens (o : Option (List Lexeme)) (e : Assignments) : Type 0 where
  words : List Lexeme
  are : o ≡ Some words
  read : event_of schema (Some words) ≡ Ok e

has_tokens : (o : Option (List Lexeme)) (e : Assignments) → event_of schema o ≡ Ok e → HasTokens o e
has_tokens None e h = absurd (cc)
has_tokens (Some ts) e h = record { words = ts; are = refl; read = h }

event_text_is : (e : Assignments) → event_text (items_text e) ≡ canonical schema e
event_text_is [] = refl
event_text_is (i ∷ e) = some_text (items_text (i ∷ e)) (omega (arith, item_some i, length-append (item_text schema i) (flat_map (λ (y : Item). codes " " ++ item_text schema y) e)))
  where
    some_text : (t : Text) → 0 < length t → event_text t ≡ t
    some_text [] h = absurd (omega arith)
    some_text (b ∷ t) h = refl

event_text_plain : (text : Text) → IsPlain 70 text → IsPlain 70 (event_text text)
event_text_plain [] h = record { bytes = refl; short = omega arith }
event_text_plain (b ∷ text) h = h

pub items_are_event : (text : Text) → AreItems 10 text → IsEventText (event_text text)
items_are_event text k =
    let spelled = ap event_text k.spelled ∙ event_text_is k.event in
    let form : IsEvent k.event = record { rising = k.rises; sets = k.sets } in
    let read = ap (event_read schema) spelled ∙ texts_are_read schema k.event schema_is_schema schema_names form k.lies in
    let has = has_tokens (tokens (event_text text)) k.event read in
    record { event = k.event; words = has.words; lexed = has.are; read = has.read; of_schema = (form, k.lies); plain = event_text_plain text k.plain }
