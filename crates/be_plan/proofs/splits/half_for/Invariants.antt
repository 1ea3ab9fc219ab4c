use Rattle.std.proofs.Common.{◌≤◌, length}
use Rattle.be_model.specs.declared.paths.Hop.TheVariants.{Low, High}
use Rattle.be_shape.specs.Children.{may_pass}
use Rattle.be_plan.proofs.Counting.{Fail}
use Rattle.be_plan.proofs.splits.half_for.Given as goal

-- so many of the rows so far are outside of each half
abbrev pub invariant-loop-place : goal.invariant-loop-place
invariant-loop-place l =
    Fail (may_pass l.s Low l.range) l.leaf l.place l.low × Fail (may_pass l.s High l.range) l.leaf l.place l.high × (l.place ≤ length l.leaf)
