use Rattle.be_base.proofs.FirstTokenLemmas.{from_the_left}
use Rattle.be_base.proofs.laws.tokens_are_from_the_left.Goals as goal

pub returns : goal.returns
returns c = from_the_left
