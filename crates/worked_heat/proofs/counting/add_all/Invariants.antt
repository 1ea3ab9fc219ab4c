use Rattle.std.proofs.Common.{◌≡◌, length}
use Rattle.be_heat.specs.Seats.{IsOf}
use Rattle.worked_heat.proofs.counting.add_all.Given as goal

abbrev pub invariant-loop : goal.invariant-loop
invariant-loop l = IsOf l.heat l.seat × (length l.seat.own ≡ l.words)
