use Rattle.std.proofs.Common.{◌≡◌, ◌≤◌, ◌*◌, ◌∙◌, sym, ap, subst, arith}
use Rattle.std.specs.Prelude.{pos, ◌*ℤ◌, unsigned_abs}
use Rattle.std.specs.Int.{w128}
use Rattle.std.proofs.Math.Nat.{mul-le-mul_left, mul-le-mul_right}
use Rattle.std.proofs.lemmas.Int.{ints, to_z-of_z, fits_signed_mul, unsigned_abs-mul}
use mir.Val.{to_z, of_z}
use mir.Syntax.{w64}
use Rattle.be_score.proofs.scores.product.Goals as goal

pub returns-clause-exact : goal.returns-clause-exact
returns-clause-exact c =
    let x_fits = c.ranges.x in
    let fits = fits_signed_mul w128 c.args.x (pos c.args.y) 255 18446744073709551616000 c.requires.factor c.requires.sum (omega arith) in
    let x : to_z w128 (of_z w128 (to_z w64 (of_z w64 c.args.x))) ≡ c.args.x = omega (arith, ints) in
    let y : to_z w128 c.args.y ≡ pos c.args.y = let h = c.requires.sum in omega (arith, ints) in
    ap (λ z. to_z w128 (of_z w128 (z *ℤ to_z w128 c.args.y))) x ∙ ap (λ z. to_z w128 (of_z w128 (c.args.x *ℤ z))) y ∙ to_z-of_z w128 (c.args.x *ℤ pos c.args.y) fits

pub returns-clause-bounded : goal.returns-clause-bounded
returns-clause-bounded c =
    let a = c.requires.factor in
    let b = c.requires.sum in
    let left = mul-le-mul_right c.args.y a in
    let right = mul-le-mul_left 255 b in
    subst (λ z. unsigned_abs z ≤ 255 * 18446744073709551616000) (sym (returns-clause-exact c))
    (subst (λ n. n ≤ 255 * 18446744073709551616000) (sym (unsigned_abs-mul c.args.x (pos c.args.y))) (omega arith))
