use Rattle.std.proofs.Common.{sym, ◌∙◌, ap, option_map}
use Rattle.be_base.specs.Tokens.{tokens}
use Rattle.be_base.specs.Readers.{following}
use Rattle.be_expr.specs.Parts.{plain_opening, plain_head, with_values}
use Rattle.be_expr.specs.Readings.{with_pred_attr}
use Rattle.be_expr.specs.declared.faults.Faults.{Faults}
use Rattle.be_expr.specs.Faults.{faults_with, met_of_op}
use Rattle.be_expr.proofs.InParts.{pred_first, no_pred_first}
use Rattle.be_expr.proofs.Gathered.{judged_with, map_is_none}
use Rattle.be_expr.proofs.scan.scan_pred.Goals as goal

pub returns-in_err-met-clause-faults : goal.returns-in_err-met-clause-faults
returns-in_err-met-clause-faults c =
    let s = c.args.schema.now in
    let left = tokens c.in-Some.rest.now in
    ap (following (λ (faults : Faults). faults)) c.from_residual.ensures
    ∙ sym (ap (option_map (faults_with s)) (pred_first (plain_head c.in-Some.head) (tokens c.args.text.now) left c.in-Some.ensures.head
    ∙ ap (option_map (with_pred_attr c.in-Some.head.attr)) (map_is_none (met_of_op s c.find-attr.result) (with_values (plain_opening c.in-Some.head.opening) left) c.in_err-met.ensures.met)))

pub returns-clause-faults : goal.returns-clause-faults
returns-clause-faults c =
    let s = c.args.schema.now in
    let left = tokens c.in-Some.rest.now in
    judged_with s c.in-Some.head.attr c.find-attr.result c.in_ok-met.met c.judged.result (with_values (plain_opening c.in-Some.head.opening) left)
    (tokens c.in_ok-met.rest.now) c.find-attr.ensures.exact c.judged.ensures c.in_ok-met.ensures.met
    ∙ sym (ap (option_map (faults_with s)) (pred_first (plain_head c.in-Some.head) (tokens c.args.text.now) left c.in-Some.ensures.head))

pub returns-in_default-clause-faults : goal.returns-in_default-clause-faults
returns-in_default-clause-faults c = sym (ap (option_map (faults_with c.args.schema.now)) (no_pred_first (tokens c.args.text.now) c.in_default.ensures.head))
