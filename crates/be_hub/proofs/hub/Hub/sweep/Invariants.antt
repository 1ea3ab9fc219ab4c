-- The broom has counted each call so far.
use Rattle.std.proofs.Common.{◌≡◌}
use Rattle.be_hub.proofs.hub.Hub.sweep.Given as goal

abbrev pub invariant-loop : goal.invariant-loop
invariant-loop g l = l.broom ≡ l.counter
