use Rattle.std.proofs.Common.{sym, subst}
use Rattle.be_base.specs.Tokens.{tokens}
use Rattle.be_expr.specs.Parts.{plain_front}
use Rattle.be_expr.specs.Expressions.{Reads}
use Rattle.be_expr.specs.Changes.{entry_read}
use Rattle.be_expr.proofs.Entering.{front_first, no_front_first}
use Rattle.be_expr.proofs.changes.read_change.Goals as goal

pub returns-in-Some-clause-exact : goal.returns-in-Some-clause-exact
returns-in-Some-clause-exact c =
    subst (Reads (entry_read c.read_kind.result))
    (sym (front_first c.args.schema.now c.args.id.0 (plain_front c.in-Some.front) (tokens c.args.text.now) (tokens c.in-Some.rest.now) c.in-Some.ensures))
    c.read_kind.ensures.exact

pub returns-in-None-clause-exact : goal.returns-in-None-clause-exact
returns-in-None-clause-exact c = no_front_first c.args.schema.now c.args.id.0 (tokens c.args.text.now) c.in-None.ensures
