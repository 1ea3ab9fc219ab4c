use Rattle.be_model.proofs.Ranges.{hulls_hold}
use Rattle.be_model.proofs.laws.hulls_hold.Goals as goal

pub returns : goal.returns
returns c = hulls_hold
