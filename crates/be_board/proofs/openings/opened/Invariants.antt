-- The list so far has a Sub for each row so far.
use Rattle.std.proofs.Common.{◌≡◌, ◌++◌}
use Rattle.be_change.specs.Opening.{opening_of}
use Rattle.be_board.proofs.openings.opened.Given as goal

abbrev pub invariant-loop-row : goal.invariant-loop-row
invariant-loop-row g l =
    (goal.iterator-loop-row g).can_next l.row-iterator ×
    (goal.iterator-loop-row g).is_finite l.row-iterator ×
    (l.fn.rows.items ≡ l.yielded ++ l.row-iterator.rest.items) ×
    (l.copy.list ≡ opening_of l.yielded) ×
    (g.I.Index.schema l.copy.index ≡ g.I.Index.schema l.fn.index) ×
    (g.I.Index.is_bounded l.copy.index ≡ g.I.Index.is_bounded l.fn.index)
