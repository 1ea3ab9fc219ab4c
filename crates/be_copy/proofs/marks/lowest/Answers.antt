use Rattle.std.proofs.Common.{arith}
use Rattle.be_copy.proofs.MarkedBits.{lowest_mark}
use Rattle.be_copy.proofs.marks.lowest.Goals as goal

pub returns : goal.returns
returns c = let at = lowest_mark c.args.bits c.requires (omega arith) in record { block = at.block; marked = at.marked; first = at.first }
