-- The seats so far are those of the ends so far, and their types keep what they say.
use Rattle.std.proofs.Common.{◌≡◌, ◌++◌, map}
use Rattle.std.specs.List.{All}
use Rattle.be_desk.specs.Seats.{IsKeptSeat}
use Rattle.worked_hub.proofs.closing.seats_of.Given as goal

abbrev pub invariant-loop-end : goal.invariant-loop-end
invariant-loop-end g l =
    (goal.iterator-loop-end g).can_next l.end-iterator
    × (goal.iterator-loop-end g).is_finite l.end-iterator
    × (l.fn.ends.items ≡ l.yielded ++ l.end-iterator.rest.items)
    × (l.seats.items ≡ map (λ end. end.seat) l.yielded)
    × All (IsKeptSeat g.J.BoxNames.boxes) l.seats.items
