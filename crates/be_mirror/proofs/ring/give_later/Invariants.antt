-- Nothing was put yet.
use Rattle.std.proofs.Common.{◌≡◌}
use Rattle.rtrb.specs.Ring.{sent, SameProducer}
use Rattle.be_mirror.proofs.ring.give_later.Given as goal

abbrev pub invariant-loop : goal.invariant-loop
invariant-loop g l =
    (goal.iterator-loop g).can_next l.iterator'
    × (goal.iterator-loop g).is_finite l.iterator'
    × SameProducer l.initial.giver l.giver
    × (sent l.giver ≡ sent l.initial.giver)
    × (l.change ≡ l.initial.change)
