-- Rows in another order are the same contents.
use Rattle.std.proofs.Common.{◌≡◌, ◌<◌, ◌≤◌, ℕ, Bool, true, false, not, cond, eqb, ◌||◌, List, [], ◌∷◌, ◌++◌, get_or, None, Some, Option, ◌⊎◌, inl, inr, refl, sym, ap, ◌∙◌, subst, arith}
use Rattle.std.specs.Prelude.{IsPermutation}
use Rattle.std.specs.List.{list_any, count_by, Contains}
use Rattle.std.proofs.lemmas.Bool.{and_parts, and_from, not-true, not_from_false, eqb-true, eq-eqb, ne_eqb, cases_order}
use Rattle.std.proofs.lemmas.List.Sums.{sum_by-cons, sum_by-append}
use Rattle.std.proofs.lemmas.List.Folds.{list_any_at}
use Rattle.std.proofs.lemmas.List.Elements.{Contains-push_cases, Contains-append_left}
use Rattle.std.proofs.lemmas.List.Sorted.{sum_by-IsPermutation, Contains-permutation, IsPermutation-sym}
use Rattle.be_model.specs.declared.changes.Row.{Row}
use Rattle.be_model.specs.Rows.{id_of}
use Rattle.be_model.specs.ByIds.{ByIds, row_at, by_ids, Rising, AllAbove, ids_differ}
use Rattle.be_model.proofs.RowsByIds.{row_found, found_row, ids_rise}

-- how many rows have an id
abbrev pub with_id : ℕ → Row → Bool
with_id i row = eqb (id_of row) i

pub one_or_none : (b : Bool) → cond {A = ℕ} b 1 0 ≤ 1
one_or_none true = omega arith
one_or_none false = omega arith

pub absent : (i : ℕ) (rows : List Row) → list_any (with_id i) rows ≡ false → count_by (with_id i) rows ≡ 0
absent i [] h = refl
absent i (row ∷ rows) h = by_test (with_id i row) refl h (absent i rows)
  where
    by_test : (b : Bool) → with_id i row ≡ b → (b || list_any (with_id i) rows) ≡ false → (list_any (with_id i) rows ≡ false → count_by (with_id i) rows ≡ 0) → count_by (with_id i) (row ∷ rows) ≡ 0
    by_test true e t more = absurd (cc)
    by_test false e t more = omega (arith, sum_by-cons (λ (r : Row). cond (with_id i r) 1 0) row rows, ap {B = ℕ} (λ b. cond b 1 0) e, more t)

pub present : (i : ℕ) (rows : List Row) → list_any (with_id i) rows ≡ true → 0 < count_by (with_id i) rows
present i [] h = absurd (cc)
present i (row ∷ rows) h = by_test (with_id i row) refl h (present i rows)
  where
    by_test : (b : Bool) → with_id i row ≡ b → (b || list_any (with_id i) rows) ≡ true → (list_any (with_id i) rows ≡ true → 0 < count_by (with_id i) rows) → 0 < count_by (with_id i) (row ∷ rows)
    by_test true e t more = omega (arith, sum_by-cons (λ (r : Row). cond (with_id i r) 1 0) row rows, ap {B = ℕ} (λ b. cond b 1 0) e)
    by_test false e t more = omega (arith, sum_by-cons (λ (r : Row). cond (with_id i r) 1 0) row rows, more t)

pub once : (rows : List Row) → ids_differ rows ≡ true → (i : ℕ) → count_by (with_id i) rows ≤ 1
once [] h i = omega arith
once (row ∷ rows) h i =
    let k = and_parts (not (list_any (with_id (id_of row)) rows)) (ids_differ rows) h in by_test (with_id i row) refl (not-true (list_any (with_id (id_of row)) rows) k.0) (once rows k.1 i)
  where
    by_test : (b : Bool) → with_id i row ≡ b → list_any (with_id (id_of row)) rows ≡ false → count_by (with_id i) rows ≤ 1 → count_by (with_id i) (row ∷ rows) ≤ 1
    by_test true e none few =
        let same : id_of row ≡ i = eqb-true (id_of row) i e in
        omega (arith, sum_by-cons (λ (r : Row). cond (with_id i r) 1 0) row rows, one_or_none (with_id i row), absent i rows (ap (λ j. list_any (with_id j) rows) (sym same) ∙ none))
    by_test false e none few = omega (arith, sum_by-cons (λ (r : Row). cond (with_id i r) 1 0) row rows, ap {B = ℕ} (λ b. cond b 1 0) e, few)

pub from_once : (rows : List Row) → ((i : ℕ) → count_by (with_id i) rows ≤ 1) → ids_differ rows ≡ true
from_once [] f = refl
from_once (row ∷ rows) f =
    and_from (not (list_any (with_id (id_of row)) rows)) (ids_differ rows) (not_from_false (list_any (with_id (id_of row)) rows) (by_test (list_any (with_id (id_of row)) rows) refl))
    (from_once rows (λ i. let g = f i in omega (arith, g, sum_by-cons (λ (r : Row). cond (with_id i r) 1 0) row rows)))
  where
    by_test : (b : Bool) → list_any (with_id (id_of row)) rows ≡ b → b ≡ false
    by_test true e =
        let g = f (id_of row) in
        absurd (omega (arith, g, sum_by-cons (λ (r : Row). cond (with_id (id_of row) r) 1 0) row rows, ap {B = ℕ} (λ b. cond b 1 0) (eq-eqb (id_of row) (id_of row) refl), present (id_of row) rows e))
    by_test false e = refl

pub still_differ : (xs ys : List Row) → IsPermutation xs ys → ids_differ xs ≡ true → ids_differ ys ≡ true
still_differ xs ys h d =
    from_once ys (λ i. let f = once xs d i in omega (arith, f, sum_by-IsPermutation (λ (r : Row). cond (with_id i r) 1 0) xs ys h))

-- two maps whose ids rise, and that have the same rows, are one
pub not_above : (id n : ℕ) (m : ByIds) → id ≤ n → AllAbove n m → row_at id m ≡ None
not_above id n [] l h = refl
not_above id n (r ∷ m) l h =
    let lt = h.0 in ap (λ b. cond b (Some r.1) (row_at id m)) (ne_eqb r.0 id (λ e. omega arith)) ∙ not_above id n m l h.1

pub first_row : (r : ℕ × Row) (m : ByIds) → row_at r.0 (r ∷ m) ≡ Some r.1
first_row r m = ap (λ b. cond b (Some r.1) (row_at r.0 m)) (eq-eqb r.0 r.0 refl)

pub same_maps : (m w : ByIds) → Rising m → Rising w → ((id : ℕ) → row_at id m ≡ row_at id w) → m ≡ w
same_maps [] [] a b f = refl
same_maps [] (q ∷ w) a b f = let e = f q.0 ∙ first_row q w in absurd (cc)
same_maps (r ∷ m) [] a b f = let e = sym (f r.0) ∙ first_row r m in absurd (cc)
same_maps (r ∷ m) (q ∷ w) a b f = by_order (cases_order r.0 q.0) (λ g. same_maps m w a.1 b.1 g)
  where
    tails : r.0 ≡ q.0 → (id : ℕ) → row_at id m ≡ row_at id w
    tails e id = by_test (eqb r.0 id) refl
      where
        by_test : (t : Bool) → eqb r.0 id ≡ t → row_at id m ≡ row_at id w
        by_test true k =
            let same : r.0 ≡ id = eqb-true r.0 id k in
            not_above id r.0 m (omega (arith, same)) a.0 ∙ sym (not_above id q.0 w (omega (arith, same, e)) b.0)
        by_test false k =
            let l : eqb q.0 id ≡ false = ap (λ n. eqb n id) (sym e) ∙ k in
            sym (ap (λ t. cond t (Some r.1) (row_at id m)) k) ∙ f id ∙ ap (λ t. cond t (Some q.1) (row_at id w)) l

    none_at : (x y : ℕ × Row) (z : ByIds) → x.0 < y.0 → AllAbove y.0 z → row_at x.0 (y ∷ z) ≡ None
    none_at x y z l h = ap (λ t. cond t (Some y.1) (row_at x.0 z)) (ne_eqb y.0 x.0 (λ e. omega arith)) ∙ not_above x.0 y.0 z (omega arith) h

    by_order : (r.0 ≡ q.0) ⊎ ((r.0 < q.0) ⊎ (q.0 < r.0)) → (((id : ℕ) → row_at id m ≡ row_at id w) → m ≡ w) → r ∷ m ≡ q ∷ w
    by_order (inl e) more =
        let one : Some r.1 ≡ Some q.1 = sym (first_row r m) ∙ f r.0 ∙ ap (λ n. row_at n (q ∷ w)) e ∙ first_row q w in
        let rows : r.1 ≡ q.1 = cc in
        ap (λ n. (n, r.1) ∷ m) e ∙ ap (λ y. (q.0, y) ∷ m) rows ∙ ap (λ z. q ∷ z) (more (tails e))
    by_order (inr (inl l)) more = let e = sym (first_row r m) ∙ f r.0 ∙ none_at r q w l b.0 in absurd (cc)
    by_order (inr (inr l)) more = let e = sym (first_row q w) ∙ sym (f q.0) ∙ none_at q r m l a.0 in absurd (cc)

pub same_rows : (xs ys : List Row) → IsPermutation xs ys → ids_differ xs ≡ true → ids_differ ys ≡ true → (id : ℕ) → row_at id (by_ids xs) ≡ row_at id (by_ids ys)
same_rows xs ys h d e id = by_row (row_at id (by_ids xs)) refl
  where
    moved : (us vs : List Row) → IsPermutation us vs → ids_differ vs ≡ true → (x : Row) → row_at id (by_ids us) ≡ Some x → row_at id (by_ids vs) ≡ Some x
    moved us vs p q x k =
        let c = found_row us id x k in subst (λ i. row_at i (by_ids vs) ≡ Some x) c.1 (row_found vs x q (Contains-permutation us vs x p c.0))

    by_none : row_at id (by_ids xs) ≡ None → (o : Option Row) → row_at id (by_ids ys) ≡ o → None ≡ o
    by_none n None k = refl
    by_none n (Some y) k = sym n ∙ moved ys xs (IsPermutation-sym xs ys h) d y k

    by_row : (o : Option Row) → row_at id (by_ids xs) ≡ o → row_at id (by_ids xs) ≡ row_at id (by_ids ys)
    by_row (Some x) k = k ∙ sym (moved xs ys h e x k)
    by_row None k = k ∙ by_none k (row_at id (by_ids ys)) refl

pub permuted : (xs ys : List Row) → IsPermutation xs ys → ids_differ xs ≡ true → by_ids xs ≡ by_ids ys
permuted xs ys h d =
    let e = still_differ xs ys h d in same_maps (by_ids xs) (by_ids ys) (ids_rise xs d) (ids_rise ys e) (same_rows xs ys h d e)

-- ids that differ in a list and one row more
pub front_differ : (rows : List Row) (x : Row) → ids_differ (rows ++ x ∷ []) ≡ true → ids_differ rows ≡ true
front_differ rows x h =
    from_once rows (λ i. let f = once (rows ++ x ∷ []) h i in omega (arith, f, sum_by-append (λ (r : Row). cond (with_id i r) 1 0) rows (x ∷ [])))

pub last_new : (rows : List Row) (x : Row) → ids_differ (rows ++ x ∷ []) ≡ true → list_any (with_id (id_of x)) rows ≡ true → ⊥
last_new rows x h k =
    let f = once (rows ++ x ∷ []) h (id_of x) in
    let g : ℕ → ℕ = λ n. n in
    omega (arith, f, present (id_of x) rows k, sum_by-append (λ (r : Row). cond (with_id (id_of x) r) 1 0) rows (x ∷ []), sum_by-cons (λ (r : Row). cond (with_id (id_of x) r) 1 0) x [], ap {B = ℕ} (λ b. cond b 1 0) (eq-eqb (id_of x) (id_of x) refl))

pub still_there : (us vs : List Row) (x : Row) → IsPermutation (us ++ x ∷ []) (vs ++ x ∷ []) → ids_differ (us ++ x ∷ []) ≡ true → ids_differ (vs ++ x ∷ []) ≡ true → (id : ℕ) (y : Row) → row_at id (by_ids us) ≡ Some y → row_at id (by_ids vs) ≡ Some y
still_there us vs x h d e id y k =
    let c = found_row us id y k in
    by_place c.0 c.1 (Contains-push_cases vs x y (Contains-permutation (us ++ x ∷ []) (vs ++ x ∷ []) y h (Contains-append_left us (x ∷ []) y c.0)))
  where
    by_place : Contains us y → id_of y ≡ id → Contains vs y ⊎ (x ≡ y) → row_at id (by_ids vs) ≡ Some y
    by_place c i (inl there) = subst (λ j. row_at j (by_ids vs) ≡ Some y) i (row_found vs y (front_differ vs x e) there)
    by_place c i (inr same) =
        absurd (last_new us x d (list_any_at (with_id (id_of x)) us c.0 y c.1 (eq-eqb (id_of (get_or us c.0 y)) (id_of x) (ap id_of (c.2 ∙ sym same)))))

-- without the row that both have, the contents are the same
pub less_permuted : (us vs : List Row) (x : Row) → IsPermutation (us ++ x ∷ []) (vs ++ x ∷ []) → ids_differ (us ++ x ∷ []) ≡ true → by_ids us ≡ by_ids vs
less_permuted us vs x h d =
    let e = still_differ (us ++ x ∷ []) (vs ++ x ∷ []) h d in
    same_maps (by_ids us) (by_ids vs) (ids_rise us (front_differ us x d)) (ids_rise vs (front_differ vs x e)) (λ id. by_row id e (row_at id (by_ids us)) refl)
  where
    by_none : (id : ℕ) → ids_differ (vs ++ x ∷ []) ≡ true → row_at id (by_ids us) ≡ None → (o : Option Row) → row_at id (by_ids vs) ≡ o → None ≡ o
    by_none id e n None k = refl
    by_none id e n (Some y) k = sym n ∙ still_there vs us x (IsPermutation-sym (us ++ x ∷ []) (vs ++ x ∷ []) h) e d id y k

    by_row : (id : ℕ) → ids_differ (vs ++ x ∷ []) ≡ true → (o : Option Row) → row_at id (by_ids us) ≡ o → row_at id (by_ids us) ≡ row_at id (by_ids vs)
    by_row id e (Some y) k = k ∙ sym (still_there us vs x h d e id y k)
    by_row id e None k = k ∙ by_none id e k (row_at id (by_ids vs)) refl
