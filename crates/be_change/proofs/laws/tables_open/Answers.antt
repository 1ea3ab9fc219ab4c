use Rattle.be_change.proofs.Openings.{table_opens}
use Rattle.be_change.proofs.laws.tables_open.Goals as goal

pub returns : goal.returns
returns c = table_opens
