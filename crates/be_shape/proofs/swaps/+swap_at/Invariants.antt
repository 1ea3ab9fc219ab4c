use Rattle.std.proofs.Common.{length}
use Rattle.be_shape.proofs.swaps.+swap_at.Given as goal

-- the steps that are left
abbrev pub decreases-swap_at : goal.decreases-swap_at
decreases-swap_at l = length l.hops.now
