use Rattle.std.proofs.Common.{◌≡◌}
use Rattle.be_shape.specs.Columns.{AreTold}
use Rattle.be_shape.specs.Leaves.{rows_of_places}
use Rattle.be_shape.proofs.columns.Columns.fill.Given as goal

abbrev pub invariant-loop-at : goal.invariant-loop-at
invariant-loop-at l = (l.columns.attr ≡ l.attr) × AreTold l.columns (rows_of_places l.places) l.at
