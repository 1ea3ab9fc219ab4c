use Rattle.std.proofs.Common.{◌≡◌, ◌-◌, length, drop}
use Rattle.be_base.specs.declared.limits.TheConstants.{EARLY_ROWS}
use Rattle.be_shape.specs.Children.{may_pass}
use Rattle.be_plan.proofs.Fails.{few_fail}
use Rattle.be_plan.proofs.splits.enough_pass.Given as goal

-- of the rows that are left as few fail as may still fail, where of all as few do as may
abbrev pub invariant-loop-place : goal.invariant-loop-place
invariant-loop-place l =
    few_fail (may_pass l.s l.hop l.range) l.spare (drop l.place l.leaf) ≡ few_fail (may_pass l.s l.hop l.range) (length l.leaf - EARLY_ROWS) l.leaf
