use Rattle.be_expr.proofs.ChangesRead.{changes_are_read}
use Rattle.be_expr.proofs.laws.changes_are_read.Goals as goal

pub returns : goal.returns
returns c = changes_are_read
