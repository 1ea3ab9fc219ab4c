-- After the first call the count has risen.
use Rattle.std.proofs.Common.{◌≡◌, ◌<◌}
use Rattle.be_base.specs.Counts.{HasRisen}
use Rattle.be_hub.proofs.links.publish_held.Given as goal

abbrev pub invariant-loop : goal.invariant-loop
invariant-loop g l = (l.counter ≡ 0 → l.tended ≡ l.initial.tended) × (0 < l.counter → HasRisen l.initial.tended l.tended)
