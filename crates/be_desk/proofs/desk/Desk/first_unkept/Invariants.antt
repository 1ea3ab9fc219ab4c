-- Each entry so far is in the record of its session's seat.
use Rattle.std.proofs.Common.{length}
use Rattle.be_desk.specs.Closing.{AreKeptBelow}
use Rattle.be_desk.proofs.desk.Desk.first_unkept.Given as goal

abbrev pub invariant-loop-place : goal.invariant-loop-place
invariant-loop-place g l = AreKeptBelow l.place (length g.J.BoxNames.boxes) l.self.list l.seats
