use Rattle.be_change.proofs.Forms.{opening_first}
use Rattle.be_change.proofs.laws.opening_is_first.Goals as goal

pub returns : goal.returns
returns c = opening_first
