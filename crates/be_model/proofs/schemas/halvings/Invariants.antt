use Rattle.std.proofs.Common.{◌≡◌, ◌+◌, ◌<◌, ◌≤◌}
use Rattle.be_model.specs.Domains.{bits}
use Rattle.be_model.proofs.schemas.halvings.Given as goal

abbrev pub invariant-loop-left : goal.invariant-loop-left
invariant-loop-left l = (l.count + bits l.left ≡ bits l.values) × (0 < l.left) × (l.left ≤ l.values)

abbrev pub decreases-loop-left : goal.decreases-loop-left
decreases-loop-left l = l.left
