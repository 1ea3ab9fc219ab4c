-- The jobs so far are those of the seats so far, each with its file.
use Rattle.std.proofs.Common.{◌≡◌, ◌++◌, length, map}
use Rattle.be_hub.proofs.jobs.pairs_of.Given as goal

abbrev pub invariant-loop-seat : goal.invariant-loop-seat
invariant-loop-seat g l =
    (goal.iterator-loop-seat g).can_next l.seat-iterator
    × (goal.iterator-loop-seat g).is_finite l.seat-iterator
    × (l.fn.seats.items ≡ l.yielded ++ l.seat-iterator.rest.items)
    × (map (λ job. job.seat) l.jobs.items ≡ l.yielded)
    × (l.fn.tasks.items ≡ map (λ job. job.task) l.jobs.items ++ l.tasks.rest.items)
    × (length l.seat-iterator.rest.items ≡ length l.tasks.rest.items)
