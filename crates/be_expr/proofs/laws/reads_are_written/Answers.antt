use Rattle.be_expr.proofs.Grammar as Grammar
use Rattle.be_expr.proofs.laws.reads_are_written.Goals as goal

pub returns : goal.returns
returns c = Grammar.reads_are_written
