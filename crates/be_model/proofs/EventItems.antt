-- The values of an attribute by the place of its item, in an event whose attributes rise.
use Rattle.std.proofs.Common.{◌≡◌, ℕ, ℤ, ◌<◌, ◌≤◌, suc, zero, true, eqb, ltb, List, [], ◌∷◌, length, get_or, Some, None, Result, Ok, Err, MatchResult, Less, Equal, Greater, nat_cmp, ⊎_elim, refl, sym, ap, ◌∙◌, arith}
use Rattle.std.proofs.lemmas.Bool.{and_parts, ltb-true, eq-eqb, ne_eqb, cases_lt, cond-true, cond-false}
use Rattle.std.proofs.lemmas.List.{get_or-map, length-map}
use Rattle.std.proofs.lemmas.Bool.Decides.{nat_tests}
use Rattle.std.proofs.lemmas.Cmp.{ranked}
use Rattle.std.specs.Ordering.{ordering_index}
use Rattle.std.specs.List.Sorted.{IsBinarySearchResult, IsSearchInRange}
use Rattle.be_base.specs.declared.names.AttrNo.{AttrNo}
use Rattle.be_model.specs.Forms.{attrs_rise}
use Rattle.be_model.specs.Matching.{Assignments, attrs_of, values_of}

pub attrs_rise-tail : (a : AttrNo) (bs : List AttrNo) → attrs_rise (a ∷ bs) ≡ true → attrs_rise bs ≡ true
attrs_rise-tail a [] h = refl
attrs_rise-tail a (b ∷ bs) h = (and_parts (ltb a.0 b.0) (attrs_rise (b ∷ bs)) h).1

-- an attribute is below those that follow it
pub first_below : (a : AttrNo) (bs : List AttrNo) (i : ℕ) (d : AttrNo) → attrs_rise (a ∷ bs) ≡ true → i < length bs → a.0 < (get_or bs i d).0
first_below a [] i d h l = absurd (omega arith)
first_below a (b ∷ bs) zero d h l = ltb-true a.0 b.0 (and_parts (ltb a.0 b.0) (attrs_rise (b ∷ bs)) h).0
first_below a (b ∷ bs) (suc i) d h l =
    let parts = and_parts (ltb a.0 b.0) (attrs_rise (b ∷ bs)) h in
    omega (arith, ltb-true a.0 b.0 parts.0, first_below b bs i d parts.1 (omega arith))

-- the attribute of the item at a place
abbrev attr_at : Assignments → ℕ → AttrNo × List ℤ → ℕ
attr_at e i d = (get_or e i d).0.0

below_later : (x : AttrNo × List ℤ) (xs : Assignments) (i : ℕ) (d : AttrNo × List ℤ) → attrs_rise (attrs_of (x ∷ xs)) ≡ true → i < length xs → x.0.0 < attr_at xs i d
below_later x xs i d h l =
    let f = λ (item : AttrNo × List ℤ). item.0 in
    omega (arith, first_below x.0 (attrs_of xs) i d.0 h (omega (arith, length-map xs f)), ap (λ (a : AttrNo). a.0) (get_or-map f xs i d d.0 l))

-- attributes rise with their places
pub attr_at-rises : (e : Assignments) (i j : ℕ) (d : AttrNo × List ℤ) → attrs_rise (attrs_of e) ≡ true → i ≤ j → j < length e → attr_at e i d ≤ attr_at e j d
attr_at-rises [] i j d h k l = absurd (omega arith)
attr_at-rises (x ∷ xs) zero zero d h k l = omega arith
attr_at-rises (x ∷ xs) zero (suc j) d h k l = omega (arith, below_later x xs j d h (omega arith))
attr_at-rises (x ∷ xs) (suc i) zero d h k l = absurd (omega arith)
attr_at-rises (x ∷ xs) (suc i) (suc j) d h k l = attr_at-rises xs i j d (attrs_rise-tail x.0 (attrs_of xs) h) (omega arith) (omega arith)

-- the item of an attribute has its values
pub values_of-at : (e : Assignments) (a : AttrNo) (i : ℕ) (d : AttrNo × List ℤ) → attrs_rise (attrs_of e) ≡ true → i < length e → attr_at e i d ≡ a.0
    → values_of e a ≡ Some (get_or e i d).1
values_of-at [] a i d h l k = absurd (omega arith)
values_of-at (x ∷ xs) a zero d h l k = cond-true (eqb x.0.0 a.0) (Some x.1) (values_of xs a) (eq-eqb x.0.0 a.0 k)
values_of-at (x ∷ xs) a (suc i) d h l k =
    let below = below_later x xs i d h (omega arith) in
    cond-false (eqb x.0.0 a.0) (Some x.1) (values_of xs a) (ne_eqb x.0.0 a.0 (λ e. omega arith))
    ∙ values_of-at xs a i d (attrs_rise-tail x.0 (attrs_of xs) h) (omega arith) k

-- an attribute without an item has no values
pub values_of-none : (e : Assignments) (a : AttrNo) → ((i : ℕ) (d : AttrNo × List ℤ) → i < length e → attr_at e i d ≡ a.0 → ⊥) → values_of e a ≡ None
values_of-none [] a h = refl
values_of-none (x ∷ xs) a h =
    cond-false (eqb x.0.0 a.0) (Some x.1) (values_of xs a) (ne_eqb x.0.0 a.0 (h 0 x (omega arith)))
    ∙ values_of-none xs a (λ i d l k. h (suc i) d (omega arith) k)

index_rises : (x y a : ℕ) → x ≤ y → ordering_index (nat_cmp x a) ≤ ordering_index (nat_cmp y a)
index_rises x y a h = grind (arith, nat_tests)

-- what a binary search by the attributes finds
pub searched : (e : Assignments) (a : AttrNo) (r : Result ℕ ℕ) → attrs_rise (attrs_of e) ≡ true
    → IsBinarySearchResult (λ (item : AttrNo × List ℤ). nat_cmp item.0.0 a.0) e r → IsSearchInRange r (length e)
    → MatchResult r (λ i. (d : AttrNo × List ℤ) → values_of e a ≡ Some (get_or e i d).1) (λ i. values_of e a ≡ None)
searched e a (Ok i) up found bound = λ d. values_of-at e a i d up bound (ranked (attr_at e i d) a.0 Equal (sym (found d)))
searched e a (Err i) up found bound =
    let split = found (λ k j d l m. index_rises (attr_at e k d) (attr_at e j d) a.0 (attr_at-rises e k j d up l m)) in
    values_of-none e a (λ k d l same. ⊎_elim (λ below. let less = ranked (attr_at e k d) a.0 Less (sym (split.0 k d (omega arith) below)) in omega arith) (λ above. let more = ranked (attr_at e k d) a.0 Greater (sym (split.1 k d above l)) in omega arith) (cases_lt k i))
