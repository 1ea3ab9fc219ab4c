-- By the lemma of the same meaning.
use Rattle.be_change.proofs.Grows.{live-append}
use Rattle.be_change.proofs.laws.live_grows.Goals as goal

pub returns : goal.returns
returns c = live-append
