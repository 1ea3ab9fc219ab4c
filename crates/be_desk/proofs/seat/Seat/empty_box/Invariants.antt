-- One letter was taken out each time, and nothing else was done.
use Rattle.std.proofs.Common.{length}
use Rattle.be_desk.proofs.Emptied.{HasTaken}
use Rattle.be_desk.proofs.seat.Seat.empty_box.Given as goal

abbrev pub invariant-loop : goal.invariant-loop
invariant-loop g l = HasTaken g.J.Naming.schema (length g.J.BoxNames.boxes) l.counter l.initial.self l.self
