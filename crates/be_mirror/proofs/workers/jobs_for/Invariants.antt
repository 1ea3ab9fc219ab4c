-- There is a job for each glass so far, and a count for each that is left.
use Rattle.std.proofs.Common.{◌≡◌, ◌≤◌, ◌++◌, length}
use Rattle.std.specs.List.{All}
use Rattle.be_base.specs.declared.limits.TheConstants.{SEATS}
use Rattle.be_door.specs.Door.{IsNew}
use Rattle.be_mirror.proofs.workers.jobs_for.Given as goal

abbrev pub invariant-loop-glass : goal.invariant-loop-glass
invariant-loop-glass g l =
    (goal.iterator-loop-glass g).can_next l.glass-iterator
    × (goal.iterator-loop-glass g).is_finite l.glass-iterator
    × (l.fn.glasses.items ≡ l.yielded ++ l.glass-iterator.rest.items)
    × (length l.jobs.items ≡ length l.yielded)
    × (l.worker ≡ length l.yielded)
    × All (λ job. (job.worker ≤ SEATS) × IsNew (g.D.Door.state l.fn.door) job.count) l.jobs.items
    × All (IsNew (g.D.Door.state l.fn.door)) l.counts.rest.items
    × (length l.glass-iterator.rest.items ≡ length l.counts.rest.items)
