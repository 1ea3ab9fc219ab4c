-- Rows of different ids, with a row more: without it they are the same too.
use Rattle.std.proofs.Common.{◌≡◌, ◌<◌, ◌≤◌, ℕ, zero, suc, Bool, true, false, not, cond, List, [], ◌∷◌, ◌++◌, length, get_or, Some, ◌⊎◌, inl, inr, refl, sym, ap, ◌∙◌, subst, arith, length-append}
use Rattle.std.specs.Prelude.{IsPermutation}
use Rattle.std.specs.List.{list_any, count_by, Contains, remove}
use Rattle.std.proofs.lemmas.Bool.{and_parts, not-true, eq-eqb, eqb-true, false≢true}
use Rattle.std.proofs.lemmas.List.Sums.{sum_by-cons, sum_by-append}
use Rattle.std.proofs.lemmas.List.Folds.{list_any_at}
use Rattle.std.proofs.lemmas.List.Elements.{Contains-push_cases, Contains-append_left}
use Rattle.std.proofs.lemmas.List.Sorted.{IsPermutation-refl, IsPermutation-cons, IsPermutation-trans, IsPermutation-sym, IsPermutation-remove, Contains-permutation, sum_by-IsPermutation, length_permutation}
use Rattle.be_model.specs.declared.changes.Row.{Row}
use Rattle.be_model.specs.Rows.{id_of}
use Rattle.be_model.specs.ByIds.{row_at, by_ids, ids_differ}
use Rattle.be_model.proofs.RowsByIds.{row_found}
use Rattle.be_shape.proofs.Contents.{with_id, present, once, from_once, still_differ}

-- the first of a list, or one of the others
first_or : (y z : Row) (rows : List Row) → Contains (y ∷ rows) z → (y ≡ z) ⊎ Contains rows z
first_or y z rows (zero, l, e) = inl e
first_or y z rows (suc i, l, e) = inr (i, omega arith, e)

-- a list of different ids that has the rows of another of the same length is the other
pub same_rows : (xs ys : List Row) → ids_differ xs ≡ true → ids_differ ys ≡ true → length ys ≤ length xs → ((y : Row) → Contains xs y → Contains ys y) → IsPermutation xs ys
same_rows [] [] d e l f = IsPermutation-refl []
same_rows [] (y ∷ ys) d e l f = absurd (omega arith)
same_rows (x ∷ xs) ys d e l f =
    let c = f x (0, omega arith, refl) in
    let rest = remove ys c.0 in
    let p = IsPermutation-remove ys c.0 x c.1 (sym c.2) in
    let kx = and_parts (not (list_any (with_id (id_of x)) xs)) (ids_differ xs) d in
    let ky = and_parts (not (list_any (with_id (id_of x)) rest)) (ids_differ rest) (still_differ ys (x ∷ rest) p e) in
    let size = length_permutation ys (x ∷ rest) p in
    let none = not-true (list_any (with_id (id_of x)) xs) kx.0 in
    let others : (y : Row) → Contains xs y → Contains rest y = λ y h. elsewhere x y xs rest none h (first_or x y rest (Contains-permutation ys (x ∷ rest) y p (f y (suc h.0, (let g = h.1 in omega arith), h.2)))) in
    IsPermutation-trans (x ∷ xs) (x ∷ rest) ys (IsPermutation-cons x xs rest (same_rows xs rest kx.1 ky.1 (omega arith) others)) (IsPermutation-sym ys (x ∷ rest) p)
  where
    elsewhere : (u y : Row) (us rest : List Row) → list_any (with_id (id_of u)) us ≡ false → Contains us y → (u ≡ y) ⊎ Contains rest y → Contains rest y
    elsewhere u y us rest none h (inr there) = there
    elsewhere u y us rest none h (inl same) =
        absurd (false≢true (sym none ∙ list_any_at (with_id (id_of u)) us h.0 y h.1 (eq-eqb (id_of (get_or us h.0 y)) (id_of u) (ap id_of (h.2 ∙ sym same)))))

-- one of the id, where some are counted
one_of : (i : ℕ) (rows : List Row) → 0 < count_by (with_id i) rows → (z : Row) × Contains rows z × (id_of z ≡ i)
one_of i [] h = absurd (omega arith)
one_of i (row ∷ rows) h = by_test (with_id i row) refl (one_of i rows)
  where
    by_test : (b : Bool) → with_id i row ≡ b → (0 < count_by (with_id i) rows → (z : Row) × Contains rows z × (id_of z ≡ i)) → (z : Row) × Contains (row ∷ rows) z × (id_of z ≡ i)
    by_test true e f = (row, (0, omega arith, refl), eqb-true (id_of row) i e)
    by_test false e f =
        let r = f (omega (arith, h, sum_by-cons (λ (x : Row). cond (with_id i x) 1 0) row rows, ap {B = ℕ} (λ b. cond b 1 0) e)) in
        (r.0, (suc r.1.0, (let l = r.1.1 in omega arith), r.1.2), r.2)

-- two rows of one id are one
pub one_row : (rows : List Row) (x y : Row) → ids_differ rows ≡ true → Contains rows x → Contains rows y → id_of x ≡ id_of y → x ≡ y
one_row rows x y d a b e =
    let one : Some x ≡ Some y = sym (row_found rows x d a) ∙ ap (λ i. row_at i (by_ids rows)) e ∙ row_found rows y d b in cc

pub cancelled : (xs ys : List Row) (x : Row) → IsPermutation (xs ++ x ∷ []) (ys ++ x ∷ []) → ids_differ xs ≡ true → IsPermutation xs ys
cancelled xs ys x h d =
    same_rows xs ys d (from_once ys (λ i. let c = counts i in let f = once xs d i in omega (arith, f, c))) (omega (arith, length_permutation (xs ++ x ∷ []) (ys ++ x ∷ []) h, length-append xs (x ∷ []), length-append ys (x ∷ [])))
    (λ y c. by_place y c (Contains-push_cases ys x y (Contains-permutation (xs ++ x ∷ []) (ys ++ x ∷ []) y h (Contains-append_left xs (x ∷ []) y c))))
  where
    counts : (i : ℕ) → count_by (with_id i) ys ≡ count_by (with_id i) xs
    counts i =
        let f : Row → ℕ = λ r. cond (with_id i r) 1 0 in
        omega (arith, sum_by-IsPermutation f (xs ++ x ∷ []) (ys ++ x ∷ []) h, sum_by-append f xs (x ∷ []), sum_by-append f ys (x ∷ []))

    back : (y z : Row) → Contains xs y → x ≡ y → Contains ys z → id_of z ≡ id_of x → Contains xs z ⊎ (x ≡ z) → Contains ys y
    back y z c same there i (inl here) = subst (Contains ys) (one_row xs z y d here c (i ∙ ap id_of same)) there
    back y z c same there i (inr is) = subst (Contains ys) (sym is ∙ same) there

    by_place : (y : Row) → Contains xs y → Contains ys y ⊎ (x ≡ y) → Contains ys y
    by_place y c (inl there) = there
    by_place y c (inr same) =
        let n = counts (id_of x) in
        let some = present (id_of x) xs (list_any_at (with_id (id_of x)) xs c.0 y c.1 (eq-eqb (id_of (get_or xs c.0 y)) (id_of x) (ap id_of (c.2 ∙ sym same)))) in
        let z = one_of (id_of x) ys (omega (arith, n, some)) in
        back y z.0 c same z.1 z.2 (Contains-push_cases xs x z.0 (Contains-permutation (ys ++ x ∷ []) (xs ++ x ∷ []) z.0 (IsPermutation-sym (xs ++ x ∷ []) (ys ++ x ∷ []) h) (Contains-append_left ys (x ∷ []) z.0 z.1)))

-- ids that differ in two lists differ in the second
pub back_differ : (xs ys : List Row) → ids_differ (xs ++ ys) ≡ true → ids_differ ys ≡ true
back_differ xs ys h =
    from_once ys (λ i. let f = once (xs ++ ys) h i in omega (arith, f, sum_by-append (λ (r : Row). cond (with_id i r) 1 0) xs ys))
