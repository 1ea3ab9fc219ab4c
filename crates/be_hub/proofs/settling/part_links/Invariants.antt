-- The seats and counts so far are those of the ends so far, their numbers are added up, and no reader was refused exactly where
-- there is no shade.
use Rattle.std.proofs.Common.{◌≡◌, ◌*◌, ◌≤◌, ◌++◌, ◌↔◌, length, map, None}
use Rattle.std.specs.List.{All}
use Rattle.be_base.specs.Counts.{last_count}
use Rattle.be_base.specs.declared.limits.TheConstants.{LINKS}
use Rattle.be_desk.specs.Seats.{IsKeptSeat}
use Rattle.be_door.specs.Counts.{with_counts}
use Rattle.be_door.specs.Sums.{no_sums, accepts}
use Rattle.be_hub.proofs.settling.part_links.Given as goal

abbrev pub invariant-loop-end : goal.invariant-loop-end
invariant-loop-end g l =
    (goal.iterator-loop-end g).can_next l.end-iterator
    × (goal.iterator-loop-end g).is_finite l.end-iterator
    × (l.fn.ends.items ≡ l.yielded ++ l.end-iterator.rest.items)
    × (l.seats.items ≡ map (λ end. end.seat) l.yielded)
    × All (IsKeptSeat g.J.BoxNames.boxes) l.seats.items
    × (l.counts.items ≡ map (λ end. end.count) l.yielded)
    × ((l.shade ≡ None) ↔ All (λ end. end.seat.glass.shuts ≡ 0) l.yielded)
    × (with_counts l.sums (map (λ end. end.count) l.end-iterator.rest.items) ≡ with_counts no_sums (map (λ end. end.count) l.fn.ends.items))
    × (accepts l.sums ≤ LINKS * length l.yielded)
    × (l.sums.back ≤ l.sums.given)
    × (l.sums.read_faults ≤ last_count)
    × (l.sums.write_faults ≤ last_count)
