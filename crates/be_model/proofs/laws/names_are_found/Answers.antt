use Rattle.be_model.proofs.ReadBack.{names_are_found}
use Rattle.be_model.proofs.laws.names_are_found.Goals as goal

pub returns : goal.returns
returns c = names_are_found
