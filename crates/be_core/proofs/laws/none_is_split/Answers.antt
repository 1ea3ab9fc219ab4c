use Rattle.be_core.proofs.Runs.{acts_whole}
use Rattle.be_core.proofs.laws.none_is_split.Goals as goal

pub returns : goal.returns
returns c = acts_whole
