-- The covered rows so far and those to come are all covered rows.
use Rattle.std.proofs.Common.{◌≡◌, ◌+◌, ◌≤◌, length}
use Rattle.std.specs.List.{count_by}
use Rattle.std.specs.BTreeMap.{btree_map_len}
use Rattle.be_model.specs.Bounds.{is_covered}
use Rattle.be_model.specs.ByIds.{map_in, rows_of}
use Rattle.be_index.proofs.rows.count_covered.Given as goal

abbrev pub invariant-loop-row : goal.invariant-loop-row
invariant-loop-row l = record {
  count : l.count + count_by (is_covered l.event) (rows_of (map_in l.row-iterator)) ≡ count_by (is_covered l.event) (rows_of (map_in l.rows.entries));
  bound : l.count + length l.row-iterator ≤ btree_map_len l.rows;
}
