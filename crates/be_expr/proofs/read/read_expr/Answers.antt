use Rattle.std.proofs.Common.{sym, ◌∙◌}
use Rattle.be_base.specs.Tokens.{tokens}
use Rattle.be_expr.proofs.Lying.{reads_all, reads_built, unbuilt_has_fault}
use Rattle.be_expr.proofs.read.read_expr.Goals as goal

pub unwrap-requires : goal.unwrap-requires
unwrap-requires c =
    unbuilt_has_fault c.args.schema.now (tokens c.args.text.now) c.first_fault.result c.first_fault.ensures.fault (sym c.if-is_all.ensures) (sym c.in-Ok-None.field-0-is ∙ c.in-Ok-None.ensures)

pub returns-in-Ok-Some-clause-exact : goal.returns-in-Ok-Some-clause-exact
returns-in-Ok-Some-clause-exact c = (reads_built c.args.schema.now (tokens c.args.text.now) c.in-Ok-Some.conj (sym c.in-Ok-Some.field-0-is ∙ c.in-Ok-Some.ensures)).0

pub returns-in-Ok-Some-clause-lies : goal.returns-in-Ok-Some-clause-lies
returns-in-Ok-Some-clause-lies c = (reads_built c.args.schema.now (tokens c.args.text.now) c.in-Ok-Some.conj (sym c.in-Ok-Some.field-0-is ∙ c.in-Ok-Some.ensures)).1

pub returns-in-Ok-None-clause-exact : goal.returns-in-Ok-None-clause-exact
returns-in-Ok-None-clause-exact c = reads_all c.args.schema.now (tokens c.args.text.now) c.make.result (sym c.if-is_all.ensures) c.make.ensures
