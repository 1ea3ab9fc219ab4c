-- By the lemma of the same meaning.
use Rattle.be_change.proofs.Extends.{legal-append}
use Rattle.be_change.proofs.laws.walk_is_kept.Goals as goal

pub returns : goal.returns
returns c = legal-append
