use Rattle.std.proofs.Common.{◌≡◌, false}
use Rattle.be_shape.specs.Spots.{known_of}
use Rattle.be_plan.specs.Splits.{any_is_had}
use Rattle.be_plan.proofs.splits.any_below_is_had.Given as goal

-- none of those below is had
abbrev pub invariant-loop-number : goal.invariant-loop-number
invariant-loop-number l = any_is_had (known_of l.k).used l.leaf l.number ≡ false
