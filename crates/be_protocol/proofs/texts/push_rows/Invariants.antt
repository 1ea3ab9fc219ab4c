-- The lines so far and those of the rows that are left are all lines.
use Rattle.std.proofs.Common.{◌≡◌, ◌++◌, drop, map}
use Rattle.std.specs.List.{flat_map}
use Rattle.be_model.specs.Rows.{rows_in}
use Rattle.be_protocol.specs.Replies.{row_line, with_lf}
use Rattle.be_protocol.proofs.texts.push_rows.Given as goal

abbrev pub invariant-loop-row : goal.invariant-loop-row
invariant-loop-row l =
    l.text.items ++ flat_map with_lf (map (row_line l.schema) (rows_in (drop l.row-index l.rows))) ≡ l.initial.text.items ++ flat_map with_lf (map (row_line l.schema) (rows_in l.rows))
