use Rattle.std.proofs.Common.{◌≡◌, ◌-◌, [], replicate}
use Rattle.be_heat.specs.Seats.{new_seat}
use Rattle.be_heat.specs.Counted.{hand}
use Rattle.be_heat.proofs.heat.Heat.make.Given as goal

abbrev pub invariant-loop : goal.invariant-loop
invariant-loop l =
    (l.home.table_id ≡ l.table.shared.table_id)
    × (l.home.me ≡ (hand (l.seats - l.counter) (replicate l.words 0), []))
    × (l.all.items ≡ replicate l.counter (new_seat l.table.shared.table_id l.words))
