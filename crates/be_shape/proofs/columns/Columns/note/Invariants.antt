use Rattle.be_shape.specs.Columns.{lets_all, slots_at}
use Rattle.be_shape.proofs.BlockColumns.{AreFilled}
use Rattle.be_shape.proofs.columns.Columns.note.Given as goal

abbrev pub invariant-loop-at : goal.invariant-loop-at
invariant-loop-at l = AreFilled (λ i. lets_all l.x (slots_at l.self i)) l.passes l.at
