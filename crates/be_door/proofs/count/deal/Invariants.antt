use Rattle.std.proofs.Common.{◌≡◌, ◌-◌, length, All}
use Rattle.be_door.specs.Counts.{new_count}
use Rattle.be_door.proofs.count.deal.Given as goal

abbrev pub invariant-loop-worker : goal.invariant-loop-worker
invariant-loop-worker g l =
    (l.home ≡ record { of = l.initial.home.of; links = l.links; shares = l.workers - l._worker; drawn = 0; ended = 0 })
    × (length l.counts.items ≡ l._worker)
    × All (λ c. c ≡ new_count l.initial.home.of l.links l.keeps) l.counts.items
