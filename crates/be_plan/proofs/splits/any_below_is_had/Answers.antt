use Rattle.std.proofs.Common.{sym, ◌∙◌, length, arith}
use Rattle.be_shape.specs.Spots.{known_of}
use Rattle.be_plan.proofs.Counting.{had_below}
use Rattle.be_plan.proofs.splits.any_below_is_had.Goals as goal

pub returns-then-is_had : goal.returns-then-is_had
returns-then-is_had c =
    let less = c.loop-number-test.true in
    let count = c.count-number-end.ensures.count in
    sym (had_below (known_of c.args.k.now).used c.args.leaf.now c.loop-number.number (length c.args.s.now) (omega (arith, less, count)) (sym c.is_had.ensures ∙ c.if-is_had.true))
