-- The seats and transcripts so far are those of the ends so far, and no reader of them was refused exactly where there is no shade.
use Rattle.std.proofs.Common.{◌≡◌, ◌++◌, ◌↔◌, map, None}
use Rattle.std.specs.List.{All}
use Rattle.be_desk.specs.Seats.{IsKeptSeat}
use Rattle.be_hub.proofs.drill.left_by.Given as goal

abbrev pub invariant-loop-end : goal.invariant-loop-end
invariant-loop-end g l =
    (goal.iterator-loop-end g).can_next l.end-iterator
    × (goal.iterator-loop-end g).is_finite l.end-iterator
    × (l.fn.ends.items ≡ l.yielded ++ l.end-iterator.rest.items)
    × (l.seats.items ≡ map (λ end. end.seat) l.yielded)
    × All (IsKeptSeat g.J.BoxNames.boxes) l.seats.items
    × (map (λ t. t.items) l.transcripts.items ≡ map (λ end. end.transcript.items) l.yielded)
    × ((l.shade ≡ None) ↔ All (λ end. end.seat.glass.shuts ≡ 0) l.yielded)
