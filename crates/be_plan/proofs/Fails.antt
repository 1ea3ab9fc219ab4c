-- Enough rows pass a test where few fail it.
use Rattle.std.proofs.Common.{◌≡◌, ℕ, zero, suc, ◌+◌, ◌-◌, ◌≤◌, eqb, leb, Bool, true, false, cond, List, [], ◌∷◌, length, drop, slice_get, Some, refl, sym, ap, ◌∙◌, arith}
use Rattle.std.specs.List.{count_by}
use Rattle.std.proofs.lemmas.Bool.{le-leb, lt-leb}
use Rattle.std.proofs.lemmas.Bool.Decides.{nat_tests}
use Rattle.std.proofs.lemmas.List.Sums.{sum_by-cons, count_by-le-length}
use Rattle.be_base.specs.declared.limits.TheConstants.{EARLY_ROWS}
use Rattle.be_model.specs.declared.changes.Row.{Row}
use Rattle.be_plan.proofs.Rows.{at_place}
use Rattle.std.specs.Prelude.{◌==◌, if◌then◌else◌}

-- at most so many rows fail the test
abbrev pub few_fail : (Row → Bool) → ℕ → List Row → Bool
few_fail test spare [] = true
few_fail test spare (row ∷ rows) =
    if test row then few_fail test spare rows else (if spare == 0 then false else few_fail test (spare - 1) rows)

counted : (test : Row → Bool) (row : Row) (rows : List Row) → count_by test (row ∷ rows) ≡ cond (test row) 1 0 + count_by test rows
counted test row rows = sum_by-cons (λ x. cond (test x) 1 0) row rows

-- as few fail as may where those that pass, and those that may fail, make up all
few_is : (test : Row → Bool) (spare : ℕ) (rows : List Row) → few_fail test spare rows ≡ leb (length rows) (count_by test rows + spare)
few_is test spare [] = sym (le-leb 0 (0 + spare) (omega arith))
few_is test spare (row ∷ rows) =
    by_test (test row) refl (few_is test spare rows) (λ n. few_is test n rows) ∙ sym (ap (λ m. leb (suc (length rows)) (m + spare)) (counted test row rows))
  where
    yes : leb (length rows) (count_by test rows + spare) ≡ leb (suc (length rows)) ((1 + count_by test rows) + spare)
    yes = grind (arith, nat_tests)

    no_more : leb (suc (length rows)) ((0 + count_by test rows) + zero) ≡ false
    no_more = let m = count_by-le-length test rows in lt-leb (suc (length rows)) ((0 + count_by test rows) + zero) (omega arith)

    above : (n : ℕ) → eqb (suc n) 0 ≡ false
    above n = grind (arith, nat_tests)

    one_less : (n : ℕ) → leb (length rows) (count_by test rows + n) ≡ leb (suc (length rows)) ((0 + count_by test rows) + suc n)
    one_less n = grind (arith, nat_tests)

    by_spare : (n : ℕ) → ((m : ℕ) → few_fail test m rows ≡ leb (length rows) (count_by test rows + m)) → cond (eqb n 0) false (few_fail test (n - 1) rows) ≡ leb (suc (length rows)) ((0 + count_by test rows) + n)
    by_spare zero on = sym no_more
    by_spare (suc n) on =
        let less : suc n - 1 ≡ n = omega arith in
        ap (λ t. cond t false (few_fail test (suc n - 1) rows)) (above n) ∙ ap (λ m. few_fail test m rows) less ∙ on n ∙ one_less n

    by_test : (b : Bool) → test row ≡ b → few_fail test spare rows ≡ leb (length rows) (count_by test rows + spare) → ((m : ℕ) → few_fail test m rows ≡ leb (length rows) (count_by test rows + m))
        → cond (test row) (few_fail test spare rows) (cond (eqb spare 0) false (few_fail test (spare - 1) rows)) ≡ leb (suc (length rows)) ((cond (test row) 1 0 + count_by test rows) + spare)
    by_test true e same on =
        ap (λ t. cond t (few_fail test spare rows) (cond (eqb spare 0) false (few_fail test (spare - 1) rows))) e ∙ same ∙ yes
        ∙ sym (ap (λ t. leb (suc (length rows)) ((cond t 1 0 + count_by test rows) + spare)) e)
    by_test false e same on =
        ap (λ t. cond t (few_fail test spare rows) (cond (eqb spare 0) false (few_fail test (spare - 1) rows))) e ∙ by_spare spare on
        ∙ sym (ap (λ t. leb (suc (length rows)) ((cond t 1 0 + count_by test rows) + spare)) e)

pub few_enough : (test : Row → Bool) (rows : List Row) → EARLY_ROWS ≤ length rows → few_fail test (length rows - EARLY_ROWS) rows ≡ leb EARLY_ROWS (count_by test rows)
few_enough test rows l = few_is test (length rows - EARLY_ROWS) rows ∙ same
  where
    same : leb (length rows) (count_by test rows + (length rows - EARLY_ROWS)) ≡ leb EARLY_ROWS (count_by test rows)
    same = grind (arith, nat_tests)

-- a step of the look at the rows
pub passes_on : (test : Row → Bool) (spare i : ℕ) (x : Row) (rows : List Row) → slice_get rows i ≡ Some x → test x ≡ true → few_fail test spare (drop (i + 1) rows) ≡ few_fail test spare (drop i rows)
passes_on test spare i x rows at t =
    sym (ap (few_fail test spare) (at_place rows i x at) ∙ ap (λ b. cond b (few_fail test spare (drop (i + 1) rows)) (cond (eqb spare 0) false (few_fail test (spare - 1) (drop (i + 1) rows)))) t)

pub fails_on : (test : Row → Bool) (spare i : ℕ) (x : Row) (rows : List Row) → slice_get rows i ≡ Some x → test x ≡ false → few_fail test spare (drop i rows) ≡ cond (eqb spare 0) false (few_fail test (spare - 1) (drop (i + 1) rows))
fails_on test spare i x rows at t =
    ap (few_fail test spare) (at_place rows i x at) ∙ ap (λ b. cond b (few_fail test spare (drop (i + 1) rows)) (cond (eqb spare 0) false (few_fail test (spare - 1) (drop (i + 1) rows)))) t
