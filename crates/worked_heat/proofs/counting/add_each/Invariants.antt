use Rattle.std.proofs.Common.{◌≡◌, length}
use Rattle.be_heat.specs.Seats.{IsOf}
use Rattle.worked_heat.proofs.counting.add_each.Given as goal

abbrev pub invariant-loop-word : goal.invariant-loop-word
invariant-loop-word l = IsOf l.heat l.seat × (length l.seat.own ≡ l.words)
