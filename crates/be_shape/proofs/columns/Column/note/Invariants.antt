use Rattle.be_shape.specs.Columns.{slot_at}
use Rattle.be_shape.specs.Lanes.{lets}
use Rattle.be_shape.proofs.BlockColumns.{AreFilled}
use Rattle.be_shape.proofs.columns.Column.note.Given as goal

abbrev pub invariant-loop-at : goal.invariant-loop-at
invariant-loop-at l = AreFilled (λ i. lets l.x (slot_at l.self i)) l.passes l.at
