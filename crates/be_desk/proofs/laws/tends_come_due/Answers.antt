use Rattle.be_desk.proofs.Tending.{tends_come_due}
use Rattle.be_desk.proofs.laws.tends_come_due.Goals as goal

pub returns : goal.returns
returns c = tends_come_due
