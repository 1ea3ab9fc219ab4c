use Rattle.be_expr.proofs.CanonicalMeaning.{texts_are_read}
use Rattle.be_expr.proofs.laws.texts_are_read.Goals as goal

pub returns : goal.returns
returns c = texts_are_read
