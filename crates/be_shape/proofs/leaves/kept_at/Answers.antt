use Rattle.be_shape.proofs.LeafRows.{row_there, row_some}
use Rattle.be_shape.proofs.leaves.kept_at.Goals as goal

pub returns-clause-at : goal.returns-clause-at
returns-clause-at c = row_there c.args.places.now c.args.place c.index-places-place.result c.requires.rows c.requires.within c.index-places-place.is

pub returns-clause-row : goal.returns-clause-row
returns-clause-row c = row_some c.args.places.now c.args.place c.index-places-place.result c.requires.rows c.requires.within c.index-places-place.is
