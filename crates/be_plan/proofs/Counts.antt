-- How many pass a test, and whether enough do.
use Rattle.std.proofs.Common.{◌≡◌, ◌<◌, leb, eqb, Bool, true, false, not, cond, List, [], ◌∷◌, length, refl, ap, ◌∙◌, arith}
use Rattle.std.specs.List.{list_all, list_any, count_by}
use Rattle.std.proofs.lemmas.Bool.{eqb-true, lt-leb, leb-true, or_parts, and_from}
use Rattle.std.proofs.lemmas.List.Folds.{sum_by-zero}
use Rattle.std.proofs.lemmas.List.Sums.{count_by-le-length}
use Rattle.be_base.specs.declared.limits.TheConstants.{EARLY_ROWS}
use Rattle.be_shape.proofs.Levels.{same_tests}

zero_counts : (b : Bool) → eqb (cond b 1 0) 0 ≡ not b
zero_counts true = refl
zero_counts false = refl

pub none_counted : {X : Type 0} (p : X → Bool) (xs : List X) → list_all (λ x. not (p x)) xs ≡ true → count_by p xs ≡ 0
none_counted p xs h =
    eqb-true (count_by p xs) 0 (sum_by-zero (λ x. cond (p x) 1 0) xs ∙ same_tests (λ x. eqb (cond (p x) 1 0) 0) (λ x. not (p x)) (λ x. zero_counts (p x)) xs ∙ h)

pub none_pass : {X : Type 0} (p : X → Bool) (xs : List X) → list_any p xs ≡ false → list_all (λ x. not (p x)) xs ≡ true
none_pass p [] h = refl
none_pass p (x ∷ xs) h =
    let k = or_parts (p x) (list_any p xs) h in and_from (not (p x)) (list_all (λ y. not (p y)) xs) (ap not k.0) (none_pass p xs k.1)

-- where enough pass, one does
pub some_pass : {X : Type 0} (p : X → Bool) (xs : List X) → leb EARLY_ROWS (count_by p xs) ≡ true → list_any p xs ≡ true
some_pass p xs h = by_test (list_any p xs) refl
  where
    by_test : (b : Bool) → list_any p xs ≡ b → b ≡ true
    by_test true e = refl
    by_test false e =
        let l = leb-true EARLY_ROWS (count_by p xs) h in let z = none_counted p xs (none_pass p xs e) in absurd (omega arith)

-- too few rows, or none that passes
pub too_few : {X : Type 0} (p : X → Bool) (xs : List X) → length xs < EARLY_ROWS → leb EARLY_ROWS (count_by p xs) ≡ false
too_few p xs l = let m = count_by-le-length p xs in lt-leb EARLY_ROWS (count_by p xs) (omega arith)

pub not_enough : {X : Type 0} (p : X → Bool) (xs : List X) → list_all (λ x. not (p x)) xs ≡ true → leb EARLY_ROWS (count_by p xs) ≡ false
not_enough p xs h = let z = none_counted p xs h in lt-leb EARLY_ROWS (count_by p xs) (omega arith)
