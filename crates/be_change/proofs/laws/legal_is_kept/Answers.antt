use Rattle.be_change.proofs.Extends.{legal_session-append}
use Rattle.be_change.proofs.laws.legal_is_kept.Goals as goal

pub returns : goal.returns
returns c = legal_session-append
