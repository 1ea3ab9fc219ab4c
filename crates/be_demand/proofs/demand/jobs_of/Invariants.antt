-- The jobs so far are those of the seats so far, each with its place.
use Rattle.std.proofs.Common.{◌≡◌, ◌++◌, length, map}
use Rattle.std.specs.List.{range_with_len}
use Rattle.be_demand.specs.Jobs.{seat_in, place_in}
use Rattle.be_demand.proofs.demand.jobs_of.Given as goal

abbrev pub invariant-loop-seat : goal.invariant-loop-seat
invariant-loop-seat l =
    goal.iterator-loop-seat.can_next l.seat-iterator
    × goal.iterator-loop-seat.is_finite l.seat-iterator
    × (l.fn.seats.items ≡ l.yielded ++ l.seat-iterator.rest.items)
    × (map seat_in l.jobs.items ≡ l.yielded)
    × (map place_in l.jobs.items ≡ range_with_len 0 (length l.jobs.items))
