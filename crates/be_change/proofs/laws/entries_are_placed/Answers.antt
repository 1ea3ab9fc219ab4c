use Rattle.be_change.proofs.Placed.{entries_placed}
use Rattle.be_change.proofs.laws.entries_are_placed.Goals as goal

pub returns : goal.returns
returns c = entries_placed
