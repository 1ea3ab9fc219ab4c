use Rattle.be_shape.specs.Children.{may_pass}
use Rattle.be_insert.proofs.SplitOff.{some_counted}
use Rattle.be_insert.proofs.split_steps.any_may_pass.Goals as goal

pub returns : goal.returns
returns c =
    some_counted (may_pass c.args.s.now c.args.hop c.args.range) c.args.leaf.now c.count_passing.result c.count_passing.ensures
