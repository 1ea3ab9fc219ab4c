use Rattle.std.proofs.Common.{arith}
use Rattle.be_model.proofs.Halvings.{bits_small, bits_large, bits_below}
use Rattle.be_model.proofs.schemas.halvings.Goals as goal

pub overflow_add-count : goal.overflow_add-count
overflow_add-count c =
    omega (arith, bits_large c.loop-left.left (omega arith), bits_below c.args.values (omega arith))

pub loop-left-preserved : goal.loop-left-preserved
loop-left-preserved c =
    (omega (arith, bits_large c.loop-left.left (omega arith)), omega arith, omega arith)

pub returns : goal.returns
returns c = omega (arith, bits_small c.loop-left.left (omega arith))
