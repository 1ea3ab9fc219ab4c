use Rattle.be_core.proofs.Runs.{shape_unseen}
use Rattle.be_core.proofs.laws.shape_is_unseen.Goals as goal

pub returns : goal.returns
returns c = shape_unseen
