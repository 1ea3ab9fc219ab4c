use Rattle.be_demand.proofs.WholeReplies.{legal_is_fit}
use Rattle.be_demand.proofs.laws.legal_is_fit.Goals as goal

pub returns : goal.returns
returns c = legal_is_fit
