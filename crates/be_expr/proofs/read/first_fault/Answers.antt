use Rattle.std.proofs.Common.{option_and_then}
use Rattle.be_base.specs.Tokens.{tokens}
use Rattle.be_expr.specs.Readings.{written}
use Rattle.be_expr.proofs.Meanings.{reads_bad}
use Rattle.be_expr.proofs.Lying.{reads_scanned}
use Rattle.be_expr.proofs.Known.{known_scanned}
use Rattle.be_expr.proofs.read.first_fault.Goals as goal

pub returns-in-Some-clause-fault : goal.returns-in-Some-clause-fault
returns-in-Some-clause-fault c = reads_scanned c.args.schema.now (tokens c.args.text.now) c.in-Some.faults c.first.result c.in-Some.ensures c.first.ensures

pub returns-in-Some-clause-known : goal.returns-in-Some-clause-known
returns-in-Some-clause-known c =
    known_scanned c.args.schema.now c.args.text.now c.first.result _
    (reads_scanned c.args.schema.now (tokens c.args.text.now) c.in-Some.faults c.first.result c.in-Some.ensures c.first.ensures)

pub returns-in-None-clause-fault : goal.returns-in-None-clause-fault
returns-in-None-clause-fault c = reads_bad c.args.schema.now (option_and_then written (tokens c.args.text.now)) c.in-None.ensures
