-- A fault of the condition is the fault.
use Rattle.std.proofs.Common.{◌≡◌, List, Ok, Err, sym, ◌∙◌, ap, subst}
use Rattle.be_base.specs.Text.{Text}
use Rattle.be_base.specs.Tokens.{tokens}
use Rattle.be_model.specs.declared.preds.Pred.{Pred}
use Rattle.be_expr.specs.Expressions.{condition, Reads}
use Rattle.be_expr.specs.Named.{naming, named}
use Rattle.be_expr.proofs.NamedFirst.{word_first, fault_behind}
use Rattle.be_expr.proofs.named.read_named.Goals as goal

pub returns-in-Err-clause-exact : goal.returns-in-Err-clause-exact
returns-in-Err-clause-exact c =
    let s = c.args.schema.now in
    let rest = tokens c.in-Some.rest.now in
    let is : naming (Ok c.in-Ok.name) (condition s rest) ≡ named s (tokens c.args.text.now) =
    sym (word_first s c.in-Some.word.now (tokens c.args.text.now) rest c.in-Some.ensures.word ∙ ap (λ name. naming name (condition s rest)) (sym c.in-Ok.ensures.exact)) in
    subst (Reads {T = Text × List Pred} (Err c.in-Err.fault)) is (fault_behind c.in-Ok.name c.in-Err.fault (condition s rest) c.in-Err.ensures.exact)
