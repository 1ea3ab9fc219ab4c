use Rattle.be_model.proofs.ReadBack.{values_are_read}
use Rattle.be_model.proofs.laws.values_are_read.Goals as goal

pub returns : goal.returns
returns c = values_are_read
