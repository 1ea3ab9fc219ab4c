use Rattle.be_model.proofs.RowsByIds.{rows_permuted}
use Rattle.be_shape.specs.Plain.{plain, rows_below}
use Rattle.be_shape.proofs.laws.rows_are_of_leaves.Goals as goal

pub returns : goal.returns
returns c = rows_permuted (rows_below (plain c.args.t.now.root))
