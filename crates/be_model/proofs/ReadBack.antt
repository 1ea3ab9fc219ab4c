-- Values and names of a schema are read back from their texts.
use Rattle.std.proofs.Common.{◌≡◌, ℕ, ℤ, pos, negsuc, ◌+◌, ◌-◌, ◌<◌, ◌≤◌, ◌≤ℤ◌, suc, zero, Bool, true, false, cond, leb, ltb, not, List, [], ◌∷◌, length, get_or, slice_get, Option, Some, None, option_map, refl, sym, ap, ◌∙◌, arith}
use Rattle.std.specs.Prelude.{unsigned_abs}
use Rattle.std.specs.Option.{option_map_or}
use Rattle.std.specs.List.{position_or_len, prefix_len}
use Rattle.std.specs.Int.Signed.{le_z}
use Rattle.std.proofs.lemmas.Bool.{and_parts, or_parts, not-true}
use Rattle.std.proofs.lemmas.Bool.Decides.{nat_tests}
use Rattle.std.proofs.lemmas.Int.{ints}
use Rattle.std.proofs.lemmas.Option.{slice_get-map, slice_get-get_or, slice_get_within}
use Rattle.be_base.specs.Text.{Text, IsWord, same_text}
use Rattle.be_base.proofs.SameText.{same_text_from_equal}
use Rattle.be_base.proofs.Decimals.{int_of-signed_decimal, IsWord-signed_decimal}
use Rattle.be_base.proofs.Joined.{IsWord-from_name}
use Rattle.be_base.specs.declared.names.AttrNo.{AttrNo}
use Rattle.be_model.specs.declared.schemas.Domain.{Domain}
use Rattle.be_model.specs.declared.schemas.Domain.TheVariants.{Int, Sym}
use Rattle.be_model.specs.declared.schemas.Attribute.{Attribute}
use Rattle.be_model.specs.Domains.{Range, bounds_of, is_within, within, value_of_word, place_of}
use Rattle.be_model.specs.Schemas.{Attributes, IsSchema, is_domain, is_among_texts, all_differ, names_of_attributes, numbered, attribute_at, attribute_named}
use Rattle.be_model.specs.Texts.{value_text, name_at, WordsAreNames}
use Rattle.be_model.proofs.Attributes.{parts3, same_text_sym}

-- a text that isn't among others differs from each of them
other_there : (texts : List Text) (n : ℕ) (t u : Text) → is_among_texts u texts ≡ false → slice_get texts n ≡ Some t → same_text u t ≡ false
other_there [] n t u h e = absurd (cc)
other_there (w ∷ ws) zero t u h e =
    let is : w ≡ t = cc in
    same_text_sym u t ∙ ap (λ x. same_text x u) (sym is) ∙ (or_parts (same_text w u) (is_among_texts u ws) h).0
other_there (w ∷ ws) (suc n) t u h e = other_there ws n t u (or_parts (same_text w u) (is_among_texts u ws) h).1 e

-- the first place of a text is its own, where texts differ
first_place : (texts : List Text) (n : ℕ) (t : Text) → all_differ texts ≡ true → slice_get texts n ≡ Some t
    → position_or_len (λ other. same_text other t) texts ≡ n
first_place [] n t h e = absurd (cc)
first_place (w ∷ ws) zero t h e =
    let is : w ≡ t = cc in
    ap (λ b. cond (not b) (1 + prefix_len (λ x. not (same_text x t)) ws) 0) (same_text_from_equal w t is)
first_place (w ∷ ws) (suc n) t h e =
    let k : same_text w t ≡ false = other_there ws n t w (not-true _ ((and_parts _ _ h).0)) e in
    ap (λ b. cond (not b) (1 + position_or_len (λ other. same_text other t) ws) 0) k
    ∙ ap (λ m. 1 + m) (first_place ws n t ((and_parts _ _ h).1) e) ∙ omega arith

found_below : (k n m : ℕ) → k ≡ n → n < m → cond (ltb k m) (Some k) None ≡ Some n
found_below k n m e h = grind (arith, nat_tests)

-- a text of a list of different ones is found at its place
pub place_of_there : (texts : List Text) (n : ℕ) (t : Text) → all_differ texts ≡ true → slice_get texts n ≡ Some t → place_of t texts ≡ Some n
place_of_there texts n t h e =
    found_below (position_or_len (λ other. same_text other t) texts) n (length texts) (first_place texts n t h e) (slice_get_within texts n t e)

inside : (r : Range) (b : Bool) (v : ℤ) → is_within r v ≡ b → b ≡ true → within r (Some v) ≡ Some v
inside r true v e h = ap (λ c. cond c (Some v) None) e
inside r false v e h = absurd (cc)

small_size : (lo hi v : ℤ) → negsuc 2147483647 ≤ℤ lo → hi ≤ℤ pos 2147483647 → lo ≤ℤ v → v ≤ℤ hi → unsigned_abs v ≤ 1099511627776
small_size lo hi (pos n) a b c d = omega (arith, ints)
small_size lo hi (negsuc n) a b c d = omega (arith, ints)

within_small : (lo hi v : ℤ) → is_domain (Int lo hi) ≡ true → is_within (lo, hi) v ≡ true → unsigned_abs v ≤ 1099511627776
within_small lo hi v h k =
    let d = parts3 (le_z (negsuc 2147483647) lo) (le_z lo hi) (le_z hi (pos 2147483647)) h in
    let a : lo ≤ℤ v = omega (arith, ints, (and_parts (le_z lo v) (le_z v hi) k).0) in
    let b : v ≤ℤ hi = omega (arith, ints, (and_parts (le_z lo v) (le_z v hi) k).1) in
    small_size lo hi v (omega (arith, ints)) (omega (arith, ints)) a b

within_listing : (m n : ℕ) → 1 ≤ m → is_within (pos 0, pos (m - 1)) (pos n) ≡ true → n < m
within_listing m n h k = grind (arith, nat_tests, ints)

some_words : (words : List Text) → is_domain (Sym words) ≡ true → 1 ≤ length words
some_words words h = grind (arith, nat_tests, parts3 (leb 1 (length words)) (leb (length words) 4096) (all_differ words) h)

below_zero : (m n : ℕ) → is_within (pos 0, pos (m - 1)) (negsuc n) ≡ true → ⊥
below_zero m n h = absurd (cc)

pub values_are_read : (d : Domain) (v : ℤ) → is_domain d ≡ true → is_within (bounds_of d) v ≡ true → value_of_word d (value_text d v) ≡ Some v
values_are_read (Int lo hi) v h k =
    ap (within (lo, hi)) (int_of-signed_decimal v (within_small lo hi v h k)) ∙ inside (lo, hi) (is_within (lo, hi) v) v refl k
values_are_read (Sym words) (pos n) h k =
    let below = within_listing (length words) n (some_words words h) k in
    let differ = (parts3 (leb 1 (length words)) (leb (length words) 4096) (all_differ words) h).2 in
    ap (option_map (λ place. pos place)) (place_of_there words n (get_or words n []) differ (slice_get-get_or words n [] below))
values_are_read (Sym words) (negsuc n) h k = absurd (below_zero (length words) n k)

pub int_is_word : (d : Domain) (lo hi v : ℤ) → d ≡ Int lo hi → is_domain d ≡ true → is_within (bounds_of d) v ≡ true → IsWord (value_text d v)
int_is_word d lo hi v e h k = rw e (IsWord-signed_decimal v (within_small lo hi v (rw e at h) (rw e at k)))

pub values_are_words : (d : Domain) (v : ℤ) → is_domain d ≡ true → WordsAreNames d → is_within (bounds_of d) v ≡ true → IsWord (value_text d v)
values_are_words (Int lo hi) v h names k = int_is_word (Int lo hi) lo hi v refl h k
values_are_words (Sym words) (pos n) h names k =
    IsWord-from_name (get_or words n []) (names n [] (within_listing (length words) n (some_words words h) k))
values_are_words (Sym words) (negsuc n) h names k = absurd (below_zero (length words) n k)

found_name : (s : Attributes) (a : AttrNo) (x : Attribute) → IsSchema s → attribute_at s a ≡ Some x → attribute_named s x.name ≡ Some a
found_name s a x f e =
    let at : slice_get (names_of_attributes s) a.0 ≡ Some x.name = slice_get-map (λ (y : Attribute). y.name) s a.0 ∙ ap (option_map (λ (y : Attribute). y.name)) e in
    ap (option_map numbered) (place_of_there (names_of_attributes s) a.0 x.name f.differ at)

not_past : (s : Attributes) (n : ℕ) → n < length s → slice_get s n ≡ None → ⊥
not_past [] n h e = absurd (omega arith)
not_past (x ∷ s) zero h e = absurd (cc)
not_past (x ∷ s) (suc n) h e = not_past s n (omega arith) e

by_attribute : (s : Attributes) (a : AttrNo) (o : Option Attribute) → IsSchema s → a.0 < length s → attribute_at s a ≡ o → attribute_named s (name_at s a) ≡ Some a
by_attribute s a None f h e = absurd (not_past s a.0 h e)
by_attribute s a (Some x) f h e =
    ap (λ o. attribute_named s (option_map_or (λ (y : Attribute). y.name) o [])) e ∙ found_name s a x f e

pub names_are_found : (s : Attributes) (a : AttrNo) → IsSchema s → a.0 < length s → attribute_named s (name_at s a) ≡ Some a
names_are_found s a f h = by_attribute s a (attribute_at s a) f h refl
