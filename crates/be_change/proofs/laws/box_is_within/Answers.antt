use Rattle.be_change.proofs.Boxes.{box_within}
use Rattle.be_change.proofs.laws.box_is_within.Goals as goal

pub returns : goal.returns
returns c = box_within
