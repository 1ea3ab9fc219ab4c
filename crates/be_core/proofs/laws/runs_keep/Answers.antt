use Rattle.be_core.proofs.Runs.{acts_kept}
use Rattle.be_core.proofs.laws.runs_keep.Goals as goal

pub returns : goal.returns
returns c = acts_kept
