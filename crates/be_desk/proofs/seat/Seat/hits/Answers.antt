-- The seat knows more, and is as before otherwise.
use Rattle.be_desk.proofs.Seats.{seat_knowing}
use Rattle.be_desk.proofs.seat.Seat.hits.Goals as goal

pub invariant_of-self-2 : goal.invariant_of-self-2
invariant_of-self-2 g c = (c.self.invariant.0, seat_knowing _ _ _ _ _ c.in_ok-n.ensures.read.known c.self.invariant.1, c.self.invariant.2)
