-- A command's line is read as a session reads it.
use Rattle.std.proofs.Common.{rules, ◌≡◌, true, sym, ap, ◌∙◌, subst}
use Rattle.be_base.specs.Tokens.{word, tokens, put_token}
use Rattle.be_protocol.specs.Readings.{request_of}
use Rattle.be_protocol.specs.Requests.{plain_request}
use Rattle.be_follow.specs.Asked.{answered, is_command, asked_of}
use Rattle.be_follow.proofs.Answering.{command_asks}
use Rattle.be_follow.proofs.asking.read_ask.Goals as goal

pub returns-clause-read : goal.returns-clause-read
returns-clause-read c =
    let s = c.args.schema.now in
    let w = c.in-Found-Word-default.word.now in
    let rest = tokens c.in-Found-Word-default.field-1.now in
    let is : is_command w ≡ true = search rules in
    let lexed : tokens c.args.text.now ≡ put_token (word w) rest = search rules in
    let read : request_of s (tokens c.args.text.now) ≡ plain_request c.in_ok-request.request = c.in_ok-request.ensures.read in
    sym (c.of.ensures.ask ∙ ap answered (sym read) ∙ subst (λ o. answered (request_of s o) ≡ asked_of s o) (sym lexed) (command_asks s w rest is))
