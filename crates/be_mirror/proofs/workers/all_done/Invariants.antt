-- What was gone through is what the workers so far left.
use Rattle.std.proofs.Common.{◌≡◌, ◌++◌, map, Ok}
use Rattle.be_mirror.proofs.workers.all_done.Given as goal

abbrev pub invariant-loop-result : goal.invariant-loop-result
invariant-loop-result g l =
    (goal.iterator-loop-result g).can_next l.result-iterator
    × (goal.iterator-loop-result g).is_finite l.result-iterator
    × (l.fn.results.items ≡ l.yielded ++ l.result-iterator.rest.items)
    × (map (λ end. Ok end) l.ends.items ≡ l.yielded)
