use Rattle.be_change.proofs.Names.{unsub_loses_one}
use Rattle.be_change.proofs.laws.unsub_removes_one.Goals as goal

pub returns : goal.returns
returns c = unsub_loses_one
