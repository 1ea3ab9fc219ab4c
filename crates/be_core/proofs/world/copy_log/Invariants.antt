use Rattle.std.proofs.Common.{◌≡◌, take}
use Rattle.be_core.proofs.world.copy_log.Given as goal

abbrev pub invariant-loop-place : goal.invariant-loop-place
invariant-loop-place l = l.copy.list ≡ take l.place l.log.list
