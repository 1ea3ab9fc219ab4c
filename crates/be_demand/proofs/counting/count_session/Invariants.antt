-- The seat has counted what came before the lines and the replies that are left.
use Rattle.std.proofs.Common.{length}
use Rattle.be_heat.specs.Seats.{IsOf}
use Rattle.be_demand.specs.Counts.{IsCounting}
use Rattle.be_demand.proofs.counting.count_session.Given as goal

abbrev pub invariant-loop-lines : goal.invariant-loop-lines
invariant-loop-lines l = record {
  of : IsOf l.heat l.seat;
  counting : IsCounting l.schema l.heat.words l.file l.transcript l.lines l.replies l.seat.own;
}

abbrev pub decreases-loop-lines : goal.decreases-loop-lines
decreases-loop-lines l = length l.lines
