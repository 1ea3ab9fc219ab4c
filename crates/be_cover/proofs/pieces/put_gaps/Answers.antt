use Rattle.std.proofs.Common.{◌≡◌, ◌<◌, ◌≤ℤ◌, pos, ◌+ℤ◌, ◌-ℤ◌, false, not, length, get_or, rules, arith, sym, ap, ◌∙◌, w64, FitsSigned, to_z, of_z}
use Rattle.std.proofs.lemmas.Int.{ints, to_z-of_z}
use Rattle.be_base.specs.declared.limits.TheConstants.{FIRST_INT, LAST_INT}
use Rattle.be_model.specs.Domains.{is_within}
use Rattle.be_cover.proofs.Turns.{ends_of_inside, gaps_put}
use Rattle.be_cover.proofs.pieces.put_gaps.Goals as goal

pub overflow_add-left : goal.overflow_add-left
overflow_add-left c =
    let x = get_or c.args.numbers.now c.loop-x.x-index (pos 0) in
    let fits : FitsSigned w64 x = search rules in
    let kept : to_z w64 (of_z w64 x) ≡ x = to_z-of_z w64 x fits in
    let inside : not (is_within c.loop-x.left x) ≡ false = ap (λ z. not (is_within c.loop-x.left z)) (sym kept) ∙ sym c.is_outside.ensures ∙ c.if-is_outside.false in
    let ends = ends_of_inside c.loop-x.left x inside in
    omega (arith, ints, ends.0, ends.1)

pub loop-x-preserved : goal.loop-x-preserved
loop-x-preserved c =
    let xs = c.args.numbers.now in
    let i = c.loop-x.x-index in
    let x = get_or xs i (pos 0) in
    let r = c.loop-x.left in
    let t : i < length xs = c.loop-x-test.true in
    let fits : FitsSigned w64 x = search rules in
    let kept : to_z w64 (of_z w64 x) ≡ x = to_z-of_z w64 x fits in
    let inside : not (is_within r x) ≡ false = ap (λ z. not (is_within r z)) (sym kept) ∙ sym c.is_outside.ensures ∙ c.if-is_outside.false in
    let ends = ends_of_inside r x inside in
    let low : FIRST_INT ≤ℤ r.0 = c.loop-x.invariant.low in
    let high : r.1 ≤ℤ LAST_INT = c.loop-x.invariant.high in
    let first : to_z w64 (of_z w64 r.0) ≡ r.0 = omega (arith, ints, ends.0, ends.1) in
    let last : to_z w64 (of_z w64 r.1) ≡ r.1 = omega (arith, ints, ends.0, ends.1) in
    let below : to_z w64 (of_z w64 (to_z w64 (of_z w64 x) -ℤ pos 1)) ≡ x -ℤ pos 1 = omega (arith, ints, ends.0, ends.1) in
    let above : to_z w64 (of_z w64 (to_z w64 (of_z w64 x) +ℤ pos 1)) ≡ x +ℤ pos 1 = omega (arith, ints, ends.0, ends.1) in
    record {
      low = omega (arith, ints, ends.0);
      high = omega (arith, ints);
      rest = gaps_put xs i r c.loop-x.out.items c.put.new.out.items _ _ _ _ t inside first below above last c.in_ok-put.ensures ∙ c.loop-x.invariant.rest;
    }
