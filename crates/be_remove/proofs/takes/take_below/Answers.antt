use Rattle.be_shape.specs.Plain.{plain, rows_below}
use Rattle.be_remove.proofs.Roots.{there_from}
use Rattle.be_remove.proofs.takes.take_below.Goals as goal

pub returns-clause-there : goal.returns-clause-there
returns-clause-there c =
    there_from c.take_from.result (rows_below (plain c.args.n.now)) (rows_below (plain c.take_from.new.n)) c.args.row.now c.take_from.ensures.taken c.take_from.ensures.lacks
