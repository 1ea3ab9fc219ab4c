use Rattle.be_copy.proofs.MarkedBits.{one_mark}
use Rattle.be_copy.proofs.marks.Marks.of.Goals as goal

pub returns : goal.returns
returns c = λ i. one_mark c.args.place i c.requires
