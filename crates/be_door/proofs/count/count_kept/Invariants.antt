use Rattle.std.proofs.Common.{◌≡◌, ◌*◌, ◌≤◌, length, take, sum_by}
use Rattle.be_base.specs.declared.limits.TheConstants.{LINKS}
use Rattle.be_door.proofs.count.count_kept.Given as goal

abbrev pub invariant-loop-count : goal.invariant-loop-count
invariant-loop-count g l =
    (l.links ≡ sum_by (λ c. length c.kept) (take l.count-index l.counts))
    × (l.links ≤ l.count-index * LINKS)
