use Rattle.std.proofs.Common.{◌≡◌, ◌+◌, ◌*◌, ◌≤◌, ◌<◌, ◌++◌, length, All, true}
use Rattle.be_base.specs.declared.limits.TheConstants.{LINKS, SEATS}
use Rattle.be_base.specs.Counts.{last_count}
use Rattle.be_door.specs.Counts.{with_counts, all_kept}
use Rattle.be_door.specs.Sums.{accepts}
use Rattle.be_door.proofs.count.gather.Given as goal

abbrev pub invariant-loop-count : goal.invariant-loop-count
invariant-loop-count g l =
    let rest = l.count-iterator.rest.items in
    (goal.iterator-loop-count g).can_next l.count-iterator
    × (goal.iterator-loop-count g).is_finite l.count-iterator
    × (with_counts l.sums rest ≡ with_counts l.fn.sums l.fn.counts.items)
    × (l.kept.links ++ all_kept rest ≡ l.fn.kept.links ++ all_kept l.fn.counts.items)
    × (l.kept.keeps ≡ l.fn.kept.keeps)
    × (length (all_kept rest) ≤ l.kept.spare)
    × All (λ c. (c.of ≡ l.fn.numbers.of) × (c.ended ≡ true)) rest
    × (l.home.of ≡ l.fn.numbers.of) × (0 < l.home.shares)
    × (l.home.shares + length rest ≡ l.fn.numbers.workers)
    × (l.home.ended + length rest ≡ l.fn.numbers.workers)
    × (accepts l.sums ≡ l.home.drawn)
    × (l.sums.back ≤ l.sums.given)
    × (l.home.drawn + LINKS * length rest ≤ LINKS * SEATS)
    × (l.sums.read_faults ≤ last_count) × (l.sums.write_faults ≤ last_count)
