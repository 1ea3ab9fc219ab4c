use Rattle.be_shape.proofs.Commons.{told_none}
use Rattle.be_shape.proofs.tallies.Tally.none.Goals as goal

pub returns-clause-told : goal.returns-clause-told
returns-clause-told c = told_none c.args.wanted c.requires
