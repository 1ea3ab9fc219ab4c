-- Schemas: attributes by name and by place, and which attributes may be put.
use Rattle.std.proofs.Common.{◌≡◌, ℕ, pos, negsuc, ◌≤ℤ◌, ◌+◌, ◌≤◌, suc, zero, Bool, true, false, leb, not, ◌&&◌, ◌||◌, List, [], ◌∷◌, ◌++◌, length, slice_get, Some, refl, sym, ap, ◌∙◌, arith}
use Rattle.std.specs.List.{list_all}
use Rattle.std.specs.Int.Signed.{le_z}
use Rattle.std.specs.Bool.{Decides}
use Rattle.std.proofs.lemmas.Bool.{and_from, and_parts}
use Rattle.std.proofs.lemmas.Bool.Decides.{nat_tests, same_from_decides}
use Rattle.std.proofs.lemmas.Int.{ints}
use Rattle.std.proofs.lemmas.List.{map_push, length_push}
use Rattle.std.proofs.lemmas.List.Folds.{list_any-append, list_all-append}
use Rattle.be_base.specs.Text.{Text, same_text}
use Rattle.be_base.proofs.SameText.{same_text-Decides}
use Rattle.be_model.specs.declared.schemas.Domain.{Domain}
use Rattle.be_model.specs.declared.schemas.Domain.TheVariants.{Int, Sym}
use Rattle.be_model.specs.declared.schemas.Attribute.{Attribute}
use Rattle.be_model.specs.Domains.{bounds_of}
use Rattle.be_model.specs.Schemas.{Attributes, IsSchema, attribute_of, names_of_attributes, is_among_texts, all_differ, is_domain, takes, reserved_words}

pub and_left : (a b : Bool) → (a && b) ≡ true → a ≡ true
and_left a b h = (and_parts a b h).0

pub and_right : (a b : Bool) → (a && b) ≡ true → b ≡ true
and_right a b h = (and_parts a b h).1

pub and_both : (a b : Bool) → a ≡ true → b ≡ true → (a && b) ≡ true
and_both a b h k = and_from a b h k

-- what a test says of each element, at a place
pub all_at : {X : Type 0} (p : X → Bool) (xs : List X) (i : ℕ) (x : X) → list_all p xs ≡ true → slice_get xs i ≡ Some x → p x ≡ true
all_at p [] i x h e = absurd (cc)
all_at p (y ∷ ys) zero x h e = let k : y ≡ x = cc in ap p (sym k) ∙ (and_parts (p y) (list_all p ys) h).0
all_at p (y ∷ ys) (suc i) x h e = all_at p ys i x ((and_parts (p y) (list_all p ys) h).1) e

pub parts3 : (a b c : Bool) → (a && b && c) ≡ true → (a ≡ true) × (b ≡ true) × (c ≡ true)
parts3 true true c h = (refl, refl, h)
parts3 true false c h = absurd (cc)
parts3 false b c h = absurd (cc)

-- a domain's bounds rise, and 32 bits hold them
pub rising_bounds : (d : Domain) → is_domain d ≡ true → (bounds_of d).0 ≤ℤ (bounds_of d).1
rising_bounds (Int lo hi) h =
    let k = parts3 (le_z (negsuc 2147483647) lo) (le_z lo hi) (le_z hi (pos 2147483647)) h in omega (arith, ints)
rising_bounds (Sym words) h = omega (arith, ints)

pub low_bounds : (d : Domain) → is_domain d ≡ true → negsuc 2147483647 ≤ℤ (bounds_of d).0
low_bounds (Int lo hi) h =
    let k = parts3 (le_z (negsuc 2147483647) lo) (le_z lo hi) (le_z hi (pos 2147483647)) h in omega (arith, ints)
low_bounds (Sym words) h = omega (arith, ints)

few_words : (n : ℕ) → leb n 4096 ≡ true → n ≤ 4096
few_words n h = grind (arith, nat_tests)

pub high_bounds : (d : Domain) → is_domain d ≡ true → (bounds_of d).1 ≤ℤ pos 2147483647
high_bounds (Int lo hi) h =
    let k = parts3 (le_z (negsuc 2147483647) lo) (le_z lo hi) (le_z hi (pos 2147483647)) h in omega (arith, ints)
high_bounds (Sym words) h =
    let k = few_words (length words) (parts3 (leb 1 (length words)) (leb (length words) 4096) (all_differ words) h).1 in omega (arith, ints)

pub same_text_sym : (a b : Text) → same_text a b ≡ same_text b a
same_text_sym a b =
    let d = same_text-Decides b a in
    let e : Decides (same_text b a) (a ≡ b) = (λ h. sym (d.0 h), λ h. d.1 (sym h)) in
    same_from_decides (same_text a b) (same_text b a) (same_text-Decides a b) e

shuffled : (a s d m : Bool) → (not (a || (s || false)) && (d && not m)) ≡ ((not a && d) && not (s || m))
shuffled true s d m = refl
shuffled false true true m = refl
shuffled false true false m = refl
shuffled false false d m = refl

-- one more text differs from the others where it isn't among them
pub all_differ_push : (xs : List Text) (t : Text) → all_differ (xs ++ t ∷ []) ≡ (all_differ xs && not (is_among_texts t xs))
all_differ_push [] t = refl
all_differ_push (x ∷ xs) t =
    ap (λ b. not b && all_differ (xs ++ t ∷ [])) (list_any-append (λ other. same_text other x) xs (t ∷ []))
    ∙ ap (λ b. not (is_among_texts x xs || (same_text t x || false)) && b) (all_differ_push xs t)
    ∙ shuffled (is_among_texts x xs) (same_text t x) (all_differ xs) (is_among_texts t xs)
    ∙ ap (λ b. (not (is_among_texts x xs) && all_differ xs) && not (b || is_among_texts t xs)) (same_text_sym t x)

not_full : (n : ℕ) → not (leb 256 n) ≡ true → n + 1 ≤ 256
not_full n h = grind (arith, nat_tests)

room_left : (n : ℕ) → n + 1 ≤ 256 → not (leb 256 n) ≡ true
room_left n h = grind (arith, nat_tests)

last_of_all : {X : Type 0} (p : X → Bool) (xs : List X) (x : X) → list_all p (xs ++ x ∷ []) ≡ (list_all p xs && (p x && true))
last_of_all p xs x = list_all-append p xs (x ∷ [])

-- a schema with one more attribute, which its test accepts
pub IsSchema-push : (s : Attributes) (name : Text) (domain : Domain) → IsSchema s → takes s name domain ≡ true → IsSchema (s ++ attribute_of name domain ∷ [])
IsSchema-push s name domain f h =
    let a = attribute_of name domain in
    let valid = (and_parts _ _ h).1 in
    let free = (and_parts _ _ ((and_parts _ _ h).0)).1 in
    let fresh = (and_parts _ _ ((and_parts _ _ ((and_parts _ _ h).0)).0)).1 in
    let room = not_full (length s) ((and_parts _ _ ((and_parts _ _ ((and_parts _ _ h).0)).0)).0) in
    record {
      few = omega (arith, length_push s a);
      differ = rw (map_push (λ (x : Attribute). x.name) s a, all_differ_push (names_of_attributes s) name) (and_from _ _ f.differ fresh);
      unreserved = rw (map_push (λ (x : Attribute). x.name) s a, last_of_all (λ n. not (is_among_texts n reserved_words)) (names_of_attributes s) name) (and_from _ _ f.unreserved (and_from _ _ free refl));
      domains = rw (last_of_all (λ (x : Attribute). is_domain x.domain) s a) (and_from _ _ f.domains (and_from _ _ valid refl));
    }

-- and each such schema is accepted
pub takes-from_IsSchema : (s : Attributes) (name : Text) (domain : Domain) → IsSchema (s ++ attribute_of name domain ∷ []) → takes s name domain ≡ true
takes-from_IsSchema s name domain f =
    let a = attribute_of name domain in
    let few = f.few in
    let room = room_left (length s) (omega (arith, length_push s a)) in
    let d = rw (map_push (λ (x : Attribute). x.name) s a, all_differ_push (names_of_attributes s) name) at f.differ in
    let u = rw (map_push (λ (x : Attribute). x.name) s a, last_of_all (λ n. not (is_among_texts n reserved_words)) (names_of_attributes s) name) at f.unreserved in
    let v = rw (last_of_all (λ (x : Attribute). is_domain x.domain) s a) at f.domains in
    and_from _ _ (and_from _ _ (and_from _ _ room ((and_parts _ _ d).1)) ((and_parts _ _ ((and_parts _ _ u).1)).0)) ((and_parts _ _ ((and_parts _ _ v).1)).0)
