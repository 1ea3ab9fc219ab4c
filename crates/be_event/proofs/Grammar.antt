-- The reading of an event's tokens is the grammar's.
use Rattle.std.proofs.Common.{◌≡◌, ℕ, zero, suc, ◌+◌, ◌≤◌, ◌<◌, ◌&&◌, Bool, true, false, List, [], ◌∷◌, ◌++◌, length, length-append, append_assoc, Option, Some, None, option_map, option_and_then, codes, refl, sym, ap, subst, ◌∙◌, arith, if◌then◌else◌}
use Rattle.std.proofs.lemmas.Bool.{and_parts, and_from}
use Rattle.be_base.specs.Text.{Text, same_text}
use Rattle.be_base.specs.Tokens.{Lexeme, word, equal, open_brace, close_brace}
use Rattle.be_base.specs.Readers.{Read}
use Rattle.be_base.specs.Sets.{value_tokens, is_filled, read_values}
use Rattle.be_base.proofs.SameText.{equal_from_same_text}
use Rattle.be_base.proofs.SetReadings.{read_values-value_tokens, ValuesRead, values_are_written}
use Rattle.be_event.specs.Grammar.{WrittenValues, single, set, WrittenItem, item_words, given_tokens, item_tokens, event_tokens, is_attr, are_written, read_given, with_item_attr, read_item, read_items, items_of, items_written, ReadsAreWritten}

-- what the grammar writes is read
given_is_read : (values : WrittenValues) (ts : List Lexeme) → is_filled (item_words values) ≡ true → read_given (given_tokens values ++ ts) ≡ Some (values, ts)
given_is_read (single v) ts h = refl
given_is_read (set []) ts h = absurd (cc)
given_is_read (set (v ∷ vs)) ts h =
    let with_set : List Text × List Lexeme → WrittenValues × List Lexeme = λ r. (set r.0, r.1) in
    ap (λ (rest : List Lexeme). option_map with_set (read_values rest)) (append_assoc (value_tokens (v ∷ vs)) (close_brace ∷ []) ts)
    ∙ ap (option_map with_set) (read_values-value_tokens v vs ts)

item_is_read : (item : WrittenItem) (ts : List Lexeme) → (is_attr item.attr && is_filled (item_words item.values)) ≡ true
    → read_item (word item.attr ∷ equal ∷ (given_tokens item.values ++ ts)) ≡ Some (item, ts)
item_is_read item ts h =
    let parts = and_parts (is_attr item.attr) (is_filled (item_words item.values)) h in
    ap (λ (b : Bool). if b then option_map (with_item_attr item.attr) (read_given (given_tokens item.values ++ ts)) else None) parts.0
    ∙ ap (option_map (with_item_attr item.attr)) (given_is_read item.values ts parts.1)

pub read_no_items : (fuel : ℕ) → read_items fuel [] ≡ Some []
read_no_items zero = refl
read_no_items (suc fuel) = refl

items_are_read : (fuel : ℕ) (items : List WrittenItem) → length items ≤ fuel → are_written items ≡ true → read_items fuel (item_tokens items) ≡ Some items
items_are_read fuel [] few h = read_no_items fuel
items_are_read zero (item ∷ items) few h = absurd (omega arith)
items_are_read (suc fuel) (item ∷ items) few h =
    let parts = and_parts (is_attr item.attr && is_filled (item_words item.values)) (are_written items) h in
    ap (option_and_then (λ (r : WrittenItem × List Lexeme). option_map (λ more. r.0 ∷ more) (read_items fuel r.1))) (item_is_read item (item_tokens items) parts.0)
    ∙ ap (option_map (λ (more : List WrittenItem). item ∷ more)) (items_are_read fuel items (omega (arith, few)) parts.1)

items_have_tokens : (items : List WrittenItem) → length items + length items ≤ length (item_tokens items)
items_have_tokens [] = omega arith
items_have_tokens (item ∷ items) = omega (arith, items_have_tokens items, length-append (given_tokens item.values) (item_tokens items))

several_are_items : (ts : List Lexeme) → 2 ≤ length ts → items_written ts ≡ items_of ts
several_are_items [] h = absurd (omega arith)
several_are_items (t ∷ []) h = absurd (omega arith)
several_are_items (word w ∷ u ∷ ts) h = refl
several_are_items (t ∷ u ∷ ts) h = refl

pub written-event_tokens : (items : List WrittenItem) → are_written items ≡ true → items_written (event_tokens items) ≡ Some items
written-event_tokens [] h = refl
written-event_tokens (item ∷ items) h =
    let many = items_have_tokens (item ∷ items) in
    several_are_items (item_tokens (item ∷ items)) (omega arith)
    ∙ items_are_read (length (item_tokens (item ∷ items))) (item ∷ items) (omega arith) h

-- what is read is written so
abbrev GivenRead : List Lexeme → Read WrittenValues → Type 0
GivenRead ts None = Unit
GivenRead ts (Some r) = (is_filled (item_words r.0) ≡ true) × (given_tokens r.0 ++ r.1 ≡ ts)

set_is_written : (ts : List Lexeme) (o : Read (List Text)) → ValuesRead ts o → GivenRead (open_brace ∷ ts) (option_map (λ (r : List Text × List Lexeme). (set r.0, r.1)) o)
set_is_written ts None h = tt
set_is_written ts (Some (vs, rest)) h = (h.0, ap (λ (after : List Lexeme). open_brace ∷ after) (append_assoc (value_tokens vs) (close_brace ∷ []) rest ∙ h.1))

given_is_written : (ts : List Lexeme) → GivenRead ts (read_given ts)
given_is_written (word v ∷ ts) = (refl, refl)
given_is_written (open_brace ∷ ts) = set_is_written ts (read_values ts) (values_are_written ts)
given_is_written _ = tt

abbrev ItemRead : List Lexeme → Read WrittenItem → Type 0
ItemRead ts None = Unit
ItemRead ts (Some r) = ((is_attr r.0.attr && is_filled (item_words r.0.values)) ≡ true) × (word r.0.attr ∷ equal ∷ (given_tokens r.0.values ++ r.1) ≡ ts)

attr_before_given : (a : Text) (b : Bool) (ts : List Lexeme) (o : Read WrittenValues) → is_attr a ≡ b → GivenRead ts o
    → ItemRead (word a ∷ equal ∷ ts) (if b then option_map (with_item_attr a) o else None)
attr_before_given a false ts o e h = tt
attr_before_given a true ts None e h = tt
attr_before_given a true ts (Some (values, rest)) e h =
    (and_from (is_attr a) (is_filled (item_words values)) e h.0, ap (λ (after : List Lexeme). word a ∷ equal ∷ after) h.1)

item_is_written : (ts : List Lexeme) → ItemRead ts (read_item ts)
item_is_written (word a ∷ equal ∷ ts) = attr_before_given a (is_attr a) ts (read_given ts) refl (given_is_written ts)
item_is_written _ = tt

shorter_behind : (ts : List Lexeme) (r : WrittenItem × List Lexeme) → ItemRead ts (Some r) → length r.1 < length ts
shorter_behind ts r h =
    subst (λ (whole : List Lexeme). length r.1 < length whole) h.1 (omega (arith, length-append (given_tokens r.0.values) r.1))

-- an item takes a token at least
pub item_shortens : (ts : List Lexeme) (o : Read WrittenItem) (r : WrittenItem × List Lexeme) → read_item ts ≡ o → o ≡ Some r → length r.1 < length ts
item_shortens ts o r e h = shorter_behind ts r (subst (ItemRead ts) (e ∙ h) (item_is_written ts))

abbrev IsWritten : List WrittenItem → List Lexeme → Type 0
IsWritten items ts = (are_written items ≡ true) × (item_tokens items ≡ ts)

abbrev AreRead : List Lexeme → Option (List WrittenItem) → Type 0
AreRead ts None = Unit
AreRead ts (Some items) = IsWritten items ts

item_before_items : (item : WrittenItem) (after ts : List Lexeme) (o : Option (List WrittenItem)) → AreRead after o → ItemRead ts (Some (item, after))
    → AreRead ts (option_map (λ items. item ∷ items) o)
item_before_items item after ts None rest h = tt
item_before_items item after ts (Some items) rest h = (
  and_from (is_attr item.attr && is_filled (item_words item.values)) (are_written items) h.0 rest.0,
  ap (λ (tokens : List Lexeme). word item.attr ∷ equal ∷ (given_tokens item.values ++ tokens)) rest.1 ∙ h.1,
)

first_then_rest : (rest : List Lexeme → Option (List WrittenItem)) (ts : List Lexeme) (o : Read WrittenItem) → ((after : List Lexeme) → AreRead after (rest after)) → ItemRead ts o
    → AreRead ts (option_and_then (λ (r : WrittenItem × List Lexeme). option_map (λ items. r.0 ∷ items) (rest r.1)) o)
first_then_rest rest ts None each h = tt
first_then_rest rest ts (Some (item, after)) each h = item_before_items item after ts (rest after) (each after) h

items_are_as_written : (fuel : ℕ) (ts : List Lexeme) → AreRead ts (read_items fuel ts)
items_are_as_written zero [] = (refl, refl)
items_are_as_written (suc fuel) [] = (refl, refl)
items_are_as_written zero (t ∷ ts) = tt
items_are_as_written (suc fuel) (t ∷ ts) = first_then_rest (read_items fuel) (t ∷ ts) (read_item (t ∷ ts)) (items_are_as_written fuel) (item_is_written (t ∷ ts))

abbrev IsRead : List Lexeme → Option (List WrittenItem) → Type 0
IsRead ts None = Unit
IsRead ts (Some items) = (are_written items ≡ true) × (event_tokens items ≡ ts)

some_are_read : (t : Lexeme) (ts : List Lexeme) (o : Option (List WrittenItem)) → AreRead (t ∷ ts) o → IsRead (t ∷ ts) o
some_are_read t ts None h = tt
some_are_read t ts (Some []) h = let e = h.1 in absurd (cc)
some_are_read t ts (Some (item ∷ items)) h = h

dash_is_read : (w : Text) (b : Bool) → same_text w (codes "-") ≡ b → IsRead (word w ∷ []) (if b then Some [] else None)
dash_is_read w true e = (refl, ap (λ (x : Text). word x ∷ []) (sym (equal_from_same_text w (codes "-") e)))
dash_is_read w false e = tt

several_are_read : (t : Lexeme) (ts : List Lexeme) → IsRead (t ∷ ts) (items_of (t ∷ ts))
several_are_read t ts = some_are_read t ts (items_of (t ∷ ts)) (items_are_as_written (length (t ∷ ts)) (t ∷ ts))

written_is_read : (ts : List Lexeme) → IsRead ts (items_written ts)
written_is_read [] = tt
written_is_read (word w ∷ []) = dash_is_read w (same_text w (codes "-")) refl
written_is_read (t ∷ []) = several_are_read t []
written_is_read (word w ∷ u ∷ ts) = several_are_read (word w) (u ∷ ts)
written_is_read (t ∷ u ∷ ts) = several_are_read t (u ∷ ts)

pub reads_are_written : ReadsAreWritten
reads_are_written ts items = (
  λ h. subst (λ (o : Option (List WrittenItem)). IsRead ts o) h (written_is_read ts),
  λ h. subst (λ (tokens : List Lexeme). items_written tokens ≡ Some items) h.1 (written-event_tokens items h.0),
)
