-- A fault of the condition is the refusal.
use Rattle.std.proofs.Common.{rules, ◌≡◌, Ok, sym, ap, ◌∙◌}
use Rattle.be_base.specs.Text.{name_of}
use Rattle.be_base.specs.Tokens.{word, tokens, put_token}
use Rattle.be_change.specs.Requests.{refused}
use Rattle.be_expr.specs.Expressions.{condition}
use Rattle.be_protocol.specs.Readings.{subscription_asked}
use Rattle.be_protocol.proofs.Commanded.{expr_fault, faulty_subscription}
use Rattle.be_protocol.proofs.requests.read_subscription.Goals as goal

pub returns-in_ok-of_expr-in-Err-clause-read : goal.returns-in_ok-of_expr-in-Err-clause-read
returns-in_ok-of_expr-in-Err-clause-read c =
    let s = c.args.schema.now in
    let name = c.in-Found-Word-default.name.now in
    let rest = c.in-Found-Word-default.rest.now in
    let parts : tokens c.args.text.now ≡ put_token (word name) (tokens rest) = search rules in
    let named : name_of name ≡ Ok c.in-Ok.name = search rules in
    let read = expr_fault c.in-Err.fault (condition s (tokens rest)) c.in-Err.ensures.exact c.in_ok-of_expr-in-Err.ensures.0 in
    ap (subscription_asked s) parts ∙ faulty_subscription s name c.in-Ok.name (tokens rest) c.in-Err.fault named read ∙ ap refused (sym c.in_ok-of_expr-in-Err.ensures.1)
