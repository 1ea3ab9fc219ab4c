use Rattle.std.proofs.Common.{◌≡◌, ◌∙◌, ap}
use Rattle.be_base.specs.Tokens.{tokens, put_token}
use Rattle.be_base.specs.Scans.{lexeme}
use Rattle.be_base.specs.declared.tokens.Token.{Token}
use Rattle.be_base.specs.declared.tokens.Token.TheVariants.{OpenBrace}
use Rattle.be_event.proofs.GivenSets.{set_given}
use Rattle.be_event.proofs.items.scan_given.Goals as goal

pub returns-in_ok-met-in-Found-OpenBrace-default-clause-given : goal.returns-in_ok-met-in-Found-OpenBrace-default-clause-given
returns-in_ok-met-in-Found-OpenBrace-default-clause-given c =
    let found = c.in-Found-OpenBrace-default in
    let met = c.in_ok-met-in-Found-OpenBrace-default in
    let brace : found.field-0 ≡ OpenBrace = found.field-0-is in
    set_given c.args.schema.now c.args.attr met.met found.set (tokens c.args.text.now) (tokens met.rest.now)
    (found.ensures.0 ∙ ap (λ (t : Token). put_token (lexeme t) (tokens found.set.now)) brace) met.ensures.met
