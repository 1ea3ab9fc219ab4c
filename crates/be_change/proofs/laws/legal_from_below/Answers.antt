use Rattle.be_change.proofs.Below.{session_below}
use Rattle.be_change.proofs.laws.legal_from_below.Goals as goal

pub returns : goal.returns
returns c = session_below
