-- The first place in the records so far.
use Rattle.be_desk.proofs.Places.{IsFirstSo}
use Rattle.be_desk.proofs.checking.first_from.Given as goal

abbrev pub invariant-loop-seat : goal.invariant-loop-seat
invariant-loop-seat g l = IsFirstSo l.place l.seats l.seat-index l.first
