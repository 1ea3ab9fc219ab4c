use Rattle.std.proofs.Common.{length, ap, arith, length-append}
use Rattle.be_adjust.proofs.moves.move_leaf.Goals as goal

pub put-requires : goal.put-requires
put-requires c =
    omega (arith, ap length c.loop-leaf.invariant, length-append c.loop-leaf.leaf c.loop-leaf.rows, length-append c.args.leaf.now c.args.rows.now, c.requires, c.len.ensures, c.loop-leaf-test.true)
