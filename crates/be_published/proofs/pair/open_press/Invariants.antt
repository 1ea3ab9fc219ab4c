-- Both copies have a Sub for each row so far.
use Rattle.std.proofs.Common.{◌≡◌, ◌++◌}
use Rattle.be_change.specs.Opening.{opening_of}
use Rattle.be_published.proofs.pair.open_press.Given as goal

abbrev pub invariant-loop-row : goal.invariant-loop-row
invariant-loop-row g l =
    (goal.iterator-loop-row g).can_next l.row-iterator ×
    (goal.iterator-loop-row g).is_finite l.row-iterator ×
    (l.fn.rows.items ≡ l.yielded ++ l.row-iterator.rest.items) ×
    (l.front ≡ opening_of l.yielded) ×
    (l.first.list ≡ l.front) ×
    (l.second.list ≡ l.front)
