use Rattle.std.proofs.Common.{option_and_then, sym, ◌∙◌, ap}
use Rattle.be_base.specs.Tokens.{tokens}
use Rattle.be_base.specs.Readers.{following}
use Rattle.be_model.specs.declared.ops.Op.{Op}
use Rattle.be_expr.specs.Parts.{plain_opening, plain_head, with_values}
use Rattle.be_expr.specs.Build.{built_pred}
use Rattle.be_expr.proofs.InParts.{pred_first, no_pred_first}
use Rattle.be_expr.proofs.BuiltPreds.{pred_is_built, no_op_built, unknown_is_unbuilt}
use Rattle.be_expr.proofs.build.build_pred.Goals as goal

pub returns-in_default-clause-pred : goal.returns-in_default-clause-pred
returns-in_default-clause-pred c = sym (ap (option_and_then (built_pred c.args.schema.now)) (no_pred_first (tokens c.args.text.now) c.in_default.ensures.head))

pub returns-in_default-find-clause-pred : goal.returns-in_default-find-clause-pred
returns-in_default-find-clause-pred c =
    let s = c.args.schema.now in
    let left = tokens c.in-Some.rest.now in
    unknown_is_unbuilt s c.in-Some.head.attr (with_values (plain_opening c.in-Some.head.opening) left) c.in_default-find.ensures.exact
    ∙ sym (ap (option_and_then (built_pred s)) (pred_first (plain_head c.in-Some.head) (tokens c.args.text.now) left c.in-Some.ensures.head))

pub returns-in_default-2-clause-pred : goal.returns-in_default-2-clause-pred
returns-in_default-2-clause-pred c =
    let s = c.args.schema.now in
    let left = tokens c.in-Some.rest.now in
    let none = sym (ap (following (λ (op : Op). op)) c.in_default-2.is) ∙ c.in_ok-op.ensures.op in
    no_op_built s c.in-Some.head.attr c.in-Some-find.attr (with_values (plain_opening c.in-Some.head.opening) left) c.in-Some-find.ensures.exact none
    ∙ sym (ap (option_and_then (built_pred s)) (pred_first (plain_head c.in-Some.head) (tokens c.args.text.now) left c.in-Some.ensures.head))

pub returns-clause-pred : goal.returns-clause-pred
returns-clause-pred c =
    let s = c.args.schema.now in
    let left = tokens c.in-Some.rest.now in
    let read = sym (ap (following (λ (op : Op). op)) c.in-Some-2.is) ∙ c.in_ok-op.ensures.op in
    pred_is_built s c.in-Some.head.attr c.in-Some-find.attr c.in-Some-2.op (with_values (plain_opening c.in-Some.head.opening) left) (tokens c.in-Some-2.rest.now) c.in-Some-find.ensures.exact read
    ∙ sym (ap (option_and_then (built_pred s)) (pred_first (plain_head c.in-Some.head) (tokens c.args.text.now) left c.in-Some.ensures.head))
