use Rattle.be_model.proofs.ReadBack.{values_are_words}
use Rattle.be_model.proofs.laws.values_are_words.Goals as goal

pub returns : goal.returns
returns c = values_are_words
