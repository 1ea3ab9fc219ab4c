-- The passes so far are those of the seats so far, none of which knows more than what is published. Each has a list for each mailbox.
use Rattle.std.proofs.Common.{◌≡◌, ◌++◌, map}
use Rattle.std.specs.List.{All}
use Rattle.be_mail.specs.Passes.{AreOfSeat}
use Rattle.be_desk.specs.Seats.{SeatState}
use Rattle.be_hub.specs.Closing.{IsShown}
use Rattle.be_hub.proofs.close.part_all.Given as goal

abbrev pub invariant-loop-seat : goal.invariant-loop-seat
invariant-loop-seat g l =
    (goal.iterator-loop-seat g).can_next l.seat-iterator
    × (goal.iterator-loop-seat g).is_finite l.seat-iterator
    × (l.fn.seats.items ≡ l.yielded ++ l.seat-iterator.rest.items)
    × (l.all.items ≡ map (λ (s : SeatState). s.passes) l.yielded)
    × All (IsShown g.J.BoxNames.boxes l.fn.desk.published) l.yielded
    × All AreOfSeat l.all.items
