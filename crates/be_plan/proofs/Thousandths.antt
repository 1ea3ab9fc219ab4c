-- What a row weighs by its share of a domain.
use Rattle.std.proofs.Common.{◌≡◌, ℕ, ◌+◌, ◌-◌, ◌*◌, ◌/◌, ◌<◌, ◌≤◌, ltb, Bool, true, false, refl, arith}
use Rattle.std.proofs.Math.Nat.{div-lt_iff_lt-mul}
use Rattle.std.proofs.lemmas.Bool.{ltb-true, ltb-false}
use Rattle.be_base.specs.declared.limits.TheConstants.{SHIFT_GAIN}

-- 501 thousandths are too many for a row to weigh 500
pub too_wide : (w d : ℕ) → 0 < d → (SHIFT_GAIN + 1) * d ≤ 1000 * w → 1000 - 1000 * w / d < SHIFT_GAIN
too_wide w d there l = by_test (ltb (1000 * w / d) (SHIFT_GAIN + 1)) refl
  where
    by_test : (b : Bool) → ltb (1000 * w / d) (SHIFT_GAIN + 1) ≡ b → 1000 - 1000 * w / d < SHIFT_GAIN
    by_test true e =
        let k = (div-lt_iff_lt-mul {k = d} {x = 1000 * w} {y = SHIFT_GAIN + 1} there).0 (ltb-true (1000 * w / d) (SHIFT_GAIN + 1) e) in absurd (omega (arith, k, l))
    by_test false e = let k = ltb-false (1000 * w / d) (SHIFT_GAIN + 1) e in omega (arith, k)
