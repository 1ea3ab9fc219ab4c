use Rattle.be_change.proofs.Walks.{legal_rise}
use Rattle.be_change.proofs.laws.told_numbers_rise.Goals as goal

pub returns : goal.returns
returns c = legal_rise
