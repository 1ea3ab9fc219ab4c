use Rattle.std.proofs.Common.{◌≡◌, ◌+◌, ℕ, [], All, length}
use Rattle.be_heat.specs.Seats.{at_word, total_of}
use Rattle.be_heat.proofs.heat.gathered.Given as goal

abbrev pub invariant-loop-seat : goal.invariant-loop-seat
invariant-loop-seat l =
    goal.iterator-loop-seat.can_next l.seat-iterator
    × goal.iterator-loop-seat.is_finite l.seat-iterator
    × (l.home.table_id ≡ l.table.shared.table_id)
    × (l.home.me.1 ≡ [])
    × (l.home.me.0.share + length l.seat-iterator.rest.items ≡ length l.fn.seats.items)
    × ((word : ℕ) → at_word l.home.me.0.counts word + total_of l.seat-iterator.rest.items word ≡ total_of l.fn.seats.items word)
    × All (λ s. s.of ≡ l.table.shared.table_id) l.seat-iterator.rest.items
