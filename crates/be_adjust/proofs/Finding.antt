-- The first row that passes a test, list by list.
use Rattle.std.proofs.Common.{◌≡◌, ◌+◌, ℕ, zero, suc, Bool, true, false, cond, ◌||◌, List, [], ◌∷◌, ◌++◌, drop, slice_get, Option, None, Some, refl, sym, ap, ◌∙◌, arith}
use Rattle.std.specs.List.{list_any, Contains}
use Rattle.be_model.specs.declared.changes.Row.{Row}
use Rattle.be_adjust.specs.Finds.{first_of}

-- the first of two lists
pub first_some : (p : Row → Bool) (xs ys : List Row) (x : Row) → first_of p xs ≡ Some x → first_of p (xs ++ ys) ≡ Some x
first_some p [] ys x h = absurd (cc)
first_some p (z ∷ xs) ys x h = by_test (p z) h (first_some p xs ys x)
  where
    by_test : (b : Bool) → cond b (Some z) (first_of p xs) ≡ Some x → (first_of p xs ≡ Some x → first_of p (xs ++ ys) ≡ Some x) → cond b (Some z) (first_of p (xs ++ ys)) ≡ Some x
    by_test true e f = e
    by_test false e f = f e

pub first_none : (p : Row → Bool) (xs ys : List Row) → first_of p xs ≡ None → first_of p (xs ++ ys) ≡ first_of p ys
first_none p [] ys h = refl
first_none p (z ∷ xs) ys h = by_test (p z) h (first_none p xs ys)
  where
    by_test : (b : Bool) → cond b (Some z) (first_of p xs) ≡ None → (first_of p xs ≡ None → first_of p (xs ++ ys) ≡ first_of p ys) → cond b (Some z) (first_of p (xs ++ ys)) ≡ first_of p ys
    by_test true e f = absurd (cc)
    by_test false e f = f e

-- and of the second, where that is asked after the first
pub first_both : (p : Row → Bool) (xs ys : List Row) {a b : Option Row} → first_of p xs ≡ a → a ≡ None → b ≡ first_of p ys → first_of p (xs ++ ys) ≡ b
first_both p xs ys h e k = first_none p xs ys (h ∙ e) ∙ sym k

-- a row that was found
pub found_one : (p : Row → Bool) (xs : List Row) (x : Row) → first_of p xs ≡ Some x → Contains xs x × (p x ≡ true)
found_one p [] x h = absurd (cc)
found_one p (z ∷ xs) x h = by_test (p z) refl h (found_one p xs x)
  where
    by_test : (b : Bool) → p z ≡ b → cond b (Some z) (first_of p xs) ≡ Some x → (first_of p xs ≡ Some x → Contains xs x × (p x ≡ true)) → Contains (z ∷ xs) x × (p x ≡ true)
    by_test true e k f = let same : z ≡ x = cc in ((0, omega arith, same), ap p (sym same) ∙ e)
    by_test false e k f = let r = f k in ((suc r.0.0, (let l = r.0.1 in omega arith), r.0.2), r.1)

pub found_any : (p : Row → Bool) (xs : List Row) (x : Row) → first_of p xs ≡ Some x → list_any p xs ≡ true
found_any p [] x h = absurd (cc)
found_any p (z ∷ xs) x h = by_test (p z) h (found_any p xs x)
  where
    by_test : (b : Bool) → cond b (Some z) (first_of p xs) ≡ Some x → (first_of p xs ≡ Some x → list_any p xs ≡ true) → (b || list_any p xs) ≡ true
    by_test true e f = refl
    by_test false e f = f e

pub found_none : (p : Row → Bool) (xs : List Row) → first_of p xs ≡ None → list_any p xs ≡ false
found_none p [] h = refl
found_none p (z ∷ xs) h = by_test (p z) h (found_none p xs)
  where
    by_test : (b : Bool) → cond b (Some z) (first_of p xs) ≡ None → (first_of p xs ≡ None → list_any p xs ≡ false) → (b || list_any p xs) ≡ false
    by_test true e f = absurd (cc)
    by_test false e f = f e

-- the first of the rows from a place on
from_place : (xs : List Row) (i : ℕ) (x : Row) → slice_get xs i ≡ Some x → drop i xs ≡ x ∷ drop (i + 1) xs
from_place [] i x h = absurd (cc)
from_place (y ∷ xs) zero x h = let same : y ≡ x = cc in ap (λ z. z ∷ xs) same
from_place (y ∷ xs) (suc i) x h = let j : suc i + 1 ≡ suc (i + 1) = omega arith in from_place xs i x h ∙ ap (λ m. x ∷ drop m (y ∷ xs)) (sym j)

pub first_here : (p : Row → Bool) (xs : List Row) (i : ℕ) (x : Row) → slice_get xs i ≡ Some x → p x ≡ true → first_of p (drop i xs) ≡ Some x
first_here p xs i x h t = ap (first_of p) (from_place xs i x h) ∙ ap (λ b. cond b (Some x) (first_of p (drop (i + 1) xs))) t

pub first_next : (p : Row → Bool) (xs : List Row) (i : ℕ) (x : Row) → slice_get xs i ≡ Some x → p x ≡ false → first_of p (drop i xs) ≡ first_of p (drop (i + 1) xs)
first_next p xs i x h t = ap (first_of p) (from_place xs i x h) ∙ ap (λ b. cond b (Some x) (first_of p (drop (i + 1) xs))) t
