use Rattle.std.proofs.Common.{sym, ◌∙◌, ap, option_map}
use Rattle.be_base.specs.Tokens.{tokens}
use Rattle.be_base.specs.Readers.{following}
use Rattle.be_expr.specs.Parts.{plain_opening, plain_head}
use Rattle.be_expr.specs.Readings.{with_pred_attr}
use Rattle.be_expr.proofs.InParts.{head_first, no_attr_first, head_of}
use Rattle.be_expr.proofs.parts.read_head.Goals as goal

pub returns-in_err-attr-clause-head : goal.returns-in_err-attr-clause-head
returns-in_err-attr-clause-head c =
    ap (following plain_head) c.from_residual-in_err-attr.ensures
    ∙ sym (no_attr_first c.in_ok-word.word.now (tokens c.args.text.now) (tokens c.in_ok-word.rest.now) c.in_err-attr.ensures c.in_ok-word.ensures.word)

pub returns-in_err-opening-clause-head : goal.returns-in_err-opening-clause-head
returns-in_err-opening-clause-head c =
    ap (following plain_head) c.from_residual-in_err-opening.ensures
    ∙ ap (option_map (with_pred_attr c.in_ok-attr.attr)) c.in_err-opening.ensures.opening
    ∙ sym (head_first c.in_ok-word.word.now c.in_ok-attr.attr (tokens c.args.text.now) (tokens c.in_ok-word.rest.now) c.in_ok-attr.ensures c.in_ok-word.ensures.word)

pub returns-clause-head : goal.returns-clause-head
returns-clause-head c =
    head_of c.in_ok-attr.attr (plain_opening c.in_ok-opening.opening) (tokens c.in_ok-opening.rest.now) (tokens c.in_ok-word.rest.now) c.in_ok-opening.ensures.opening
    ∙ sym (head_first c.in_ok-word.word.now c.in_ok-attr.attr (tokens c.args.text.now) (tokens c.in_ok-word.rest.now) c.in_ok-attr.ensures c.in_ok-word.ensures.word)
