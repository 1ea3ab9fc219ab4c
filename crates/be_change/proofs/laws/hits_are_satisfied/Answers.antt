use Rattle.be_change.proofs.Hits.{rows_of-hit_rows, length-hits}
use Rattle.be_change.proofs.laws.hits_are_satisfied.Goals as goal

pub returns : goal.returns
returns c = λ h e. (rows_of-hit_rows h e, length-hits h e)
