use Rattle.be_model.proofs.Ranges.{halves_split}
use Rattle.be_model.proofs.laws.halves_split.Goals as goal

pub returns : goal.returns
returns c = halves_split
