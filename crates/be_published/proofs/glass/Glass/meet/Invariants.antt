-- Nothing is known more, or counted, before it is let in.
use Rattle.std.proofs.Common.{◌≡◌}
use Rattle.be_published.proofs.glass.Glass.meet.Given as goal

abbrev pub invariant-loop : goal.invariant-loop
invariant-loop g l =
    (goal.iterator-loop g).can_next l.iterator' × (goal.iterator-loop g).is_finite l.iterator' × (l.self ≡ l.initial.self)
