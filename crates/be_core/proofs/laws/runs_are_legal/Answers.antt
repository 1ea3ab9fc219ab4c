use Rattle.be_core.proofs.Runs.{each_legal}
use Rattle.be_core.proofs.laws.runs_are_legal.Goals as goal

pub returns : goal.returns
returns c = each_legal
