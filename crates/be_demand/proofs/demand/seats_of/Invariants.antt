-- The seats so far are those of the ends so far.
use Rattle.std.proofs.Common.{◌≡◌, ◌++◌, map}
use Rattle.be_demand.specs.Jobs.{done}
use Rattle.be_demand.proofs.demand.seats_of.Given as goal

abbrev pub invariant-loop-end : goal.invariant-loop-end
invariant-loop-end l =
    goal.iterator-loop-end.can_next l.end-iterator
    × goal.iterator-loop-end.is_finite l.end-iterator
    × (l.fn.ends.items ≡ l.yielded ++ l.end-iterator.rest.items)
    × (map done l.seats.items ≡ l.yielded)
