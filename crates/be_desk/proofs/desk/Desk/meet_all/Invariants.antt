-- The seats so far.
use Rattle.std.specs.List.{AllWithin}
use Rattle.be_desk.specs.Closing.{IsBeside}
use Rattle.be_desk.proofs.desk.Desk.meet_all.Given as goal

abbrev pub invariant-loop-seat : goal.invariant-loop-seat
invariant-loop-seat g l = AllWithin (IsBeside g.J.BoxNames.boxes l.self.list) l.seats 0 l.seat-index
