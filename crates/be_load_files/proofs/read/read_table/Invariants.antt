use Rattle.std.proofs.Common.{length}
use Rattle.be_load_files.specs.Reading.{KeepsNames}
use Rattle.be_load_files.proofs.SoFar.{SoFar}
use Rattle.be_load_files.proofs.read.read_table.Given as goal

abbrev pub invariant-loop-rest : goal.invariant-loop-rest
invariant-loop-rest l = record {
  so_far : SoFar l.schema l.text l.rest l.number l.table.rows.items;
  names : KeepsNames l.table;
}

abbrev pub decreases-loop-rest : goal.decreases-loop-rest
decreases-loop-rest l = length l.rest
