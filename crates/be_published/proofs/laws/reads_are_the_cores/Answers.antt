-- By the lemma of the same meaning.
use Rattle.be_published.proofs.CoreReads as lemmas
use Rattle.be_published.proofs.laws.reads_are_the_cores.Goals as goal

pub returns : goal.returns
returns c = lemmas.reads_are_the_cores
