-- Of all wanted rows, those to come are still to be put.
use Rattle.be_model.specs.ByIds.{map_in, rows_of}
use Rattle.be_index.proofs.Adding.{IsUnderway}
use Rattle.be_index.specs.Rows.{wanted_of}
use Rattle.be_index.proofs.rows.push_rows.Given as goal

abbrev pub invariant-loop-row : goal.invariant-loop-row
invariant-loop-row g l =
    IsUnderway (g.C.Hits.held l.initial.found) (g.C.Hits.held l.found) (wanted_of g.C.Hits.item_of l.wanted (rows_of (map_in l.row-iterator))) (wanted_of g.C.Hits.item_of l.wanted (rows_of (map_in l.rows.entries)))
