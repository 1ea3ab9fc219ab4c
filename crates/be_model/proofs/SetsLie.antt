-- The sets that words mean lie in the schema, where each word has a value.
use Rattle.std.proofs.Common.{◌≡◌, ℕ, ℤ, pos, ◌<◌, ◌&&◌, Bool, true, false, List, [], ◌∷◌, length, map, int_lt, slice_get, Option, Some, None, option_map, option_and_then, inl, inr, refl, sym, ◌∙◌, ap, subst, arith, if◌then◌else◌}
use Rattle.std.specs.List.{list_all}
use Rattle.std.specs.Option.{is_none, option_map_or}
use Rattle.std.proofs.lemmas.List.{length-map}
use Rattle.std.proofs.lemmas.List.Quantifiers.{position-Some}
use Rattle.std.proofs.lemmas.Option.{slice_get_cases}
use Rattle.std.proofs.lemmas.Bool.{or_parts, and_parts, and_from}
use Rattle.be_base.specs.Text.{Text, same_text}
use Rattle.be_base.specs.declared.names.AttrNo.{AttrNo}
use Rattle.be_model.specs.declared.schemas.Attribute.{Attribute}
use Rattle.be_model.specs.Domains.{Range, bounds_of, is_within, value_of_word, place_of}
use Rattle.be_model.specs.Schemas.{Attributes, numbered, attribute_named, attribute_at, names_of_attributes, range_of, value_at}
use Rattle.be_model.specs.Forms.{put_value}
use Rattle.be_model.specs.Lies.{lies_in}
use Rattle.be_model.specs.SetTexts.{known, has_outside, rising, meant_values}
use Rattle.be_model.proofs.ReadValues.{value_within}

within_if : (r : Range) (d : Attribute) (text : Text) (o : Option ℤ) → value_of_word d.domain text ≡ o → is_none o ≡ false → is_within (bounds_of d.domain) (option_map_or (λ n. n) o (pos 0)) ≡ true
within_if r d text None e h = absurd (cc)
within_if r d text (Some n) e h = value_within d.domain text n e

-- a value that a word has lies in the attribute's range
known_within : (s : Attributes) (a : AttrNo) (x : Attribute) (v : Text) → attribute_at s a ≡ Some x → is_none (value_at s a v) ≡ false → is_within (bounds_of x.domain) (known s a v) ≡ true
known_within s a x v at h =
    let value : value_at s a v ≡ value_of_word x.domain v = ap (option_and_then (λ (y : Attribute). value_of_word y.domain v)) at in
    subst (λ (o : Option ℤ). is_within (bounds_of x.domain) (option_map_or (λ n. n) o (pos 0)) ≡ true) (sym value)
    (within_if (bounds_of x.domain) x v (value_of_word x.domain v) refl (subst (λ (o : Option ℤ). is_none o ≡ false) value h))

pub all_known_within : (s : Attributes) (a : AttrNo) (x : Attribute) (vs : List Text) → attribute_at s a ≡ Some x → has_outside s a vs ≡ false
    → list_all (is_within (bounds_of x.domain)) (map (known s a) vs) ≡ true
all_known_within s a x [] at h = refl
all_known_within s a x (v ∷ vs) at h =
    let parts = or_parts (is_none (value_at s a v)) (has_outside s a vs) h in
    and_from (is_within (bounds_of x.domain) (known s a v)) (list_all (is_within (bounds_of x.domain)) (map (known s a) vs)) (known_within s a x v at parts.0) (all_known_within s a x vs at parts.1)

put_if : (test : ℤ → Bool) (v x : ℤ) (xs ys : List ℤ) (a b : Bool) → test v ≡ true → test x ≡ true → list_all test xs ≡ true → list_all test ys ≡ true
    → list_all test (if a then v ∷ x ∷ xs else (if b then x ∷ ys else x ∷ xs)) ≡ true
put_if test v x xs ys true b p q all more = and_from (test v) (test x && list_all test xs) p (and_from (test x) (list_all test xs) q all)
put_if test v x xs ys false true p q all more = and_from (test x) (list_all test ys) q more
put_if test v x xs ys false false p q all more = and_from (test x) (list_all test xs) q all

put_within : (test : ℤ → Bool) (v : ℤ) (xs : List ℤ) → test v ≡ true → list_all test xs ≡ true → list_all test (put_value v xs) ≡ true
put_within test v [] p all = and_from (test v) true p refl
put_within test v (x ∷ xs) p all =
    let parts = and_parts (test x) (list_all test xs) all in
    put_if test v x xs (put_value v xs) (int_lt v x) (int_lt x v) p parts.0 parts.1 (put_within test v xs p parts.1)

pub rising_within : (test : ℤ → Bool) (vs : List ℤ) → list_all test vs ≡ true → list_all test (rising vs) ≡ true
rising_within test [] all = refl
rising_within test (v ∷ vs) all =
    let parts = and_parts (test v) (list_all test vs) all in
    put_within test v (rising vs) parts.0 (rising_within test vs parts.1)

there_or_past : (s : Attributes) (place : ℕ) → place < length s → (x : Attribute) × (slice_get s place ≡ Some x)
there_or_past s place within =
    elim (slice_get_cases s place).1 [ inl there ↦ (there.0, there.2) | inr past ↦ absurd (omega (arith, past.0)) ]

at_place : (s : Attributes) (name : Text) (a : AttrNo) (o : Option ℕ) → place_of name (names_of_attributes s) ≡ o → option_map numbered o ≡ Some a → (x : Attribute) × (attribute_at s a ≡ Some x)
at_place s name a None e h = absurd (cc)
at_place s name a (Some place) e h =
    let found = position-Some (λ other. same_text other name) (names_of_attributes s) place [] e in
    let is : numbered place ≡ a = cc in
    subst (λ (b : AttrNo). (x : Attribute) × (attribute_at s b ≡ Some x)) is
    (there_or_past s place (subst (λ (n : ℕ). place < n) (length-map s (λ (x : Attribute). x.name)) found.0))

-- the schema has an attribute that a name has
pub attribute_is_there : (s : Attributes) (name : Text) (a : AttrNo) → attribute_named s name ≡ Some a → (x : Attribute) × (attribute_at s a ≡ Some x)
attribute_is_there s name a h = at_place s name a (place_of name (names_of_attributes s)) refl h

-- a set that words mean lies in the schema
pub meant_lies : (s : Attributes) (a : AttrNo) (x : Attribute) (words : List Text) → attribute_at s a ≡ Some x → has_outside s a words ≡ false
    → lies_in (range_of s a) (meant_values s a words) ≡ true
meant_lies s a x words there h =
    let range : range_of s a ≡ Some (bounds_of x.domain) = ap (option_map (λ (y : Attribute). bounds_of y.domain)) there in
    ap (λ (r : Option Range). lies_in r (meant_values s a words)) range
    ∙ rising_within (is_within (bounds_of x.domain)) (map (known s a) words) (all_known_within s a x words there h)
