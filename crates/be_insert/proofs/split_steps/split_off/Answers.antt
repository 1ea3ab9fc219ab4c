use Rattle.std.proofs.Common.{length, ap, arith}
use Rattle.be_shape.specs.Plain.{plain, leaf_of}
use Rattle.be_shape.specs.Children.{may_pass}
use Rattle.be_insert.proofs.SplitOff.{fewer_moved}
use Rattle.be_insert.proofs.split_steps.split_off.Goals as goal

pub draw_off-requires-clause-few : goal.draw_off-requires-clause-few
draw_off-requires-clause-few c =
    let leaf = leaf_of (plain c.make_room.new.n) in
    omega (arith, fewer_moved (may_pass c.args.s.now c.args.hop c.args.range) leaf, c.requires.few, ap (λ m. length (leaf_of m)) c.in_ok-below.ensures.same)
