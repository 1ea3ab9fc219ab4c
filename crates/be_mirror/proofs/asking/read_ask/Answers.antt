-- A command's line is read as a session reads it.
use Rattle.std.proofs.Common.{rules, ◌≡◌, true, sym, ap, ◌∙◌, subst}
use Rattle.std.proofs.lemmas.Result.{err_from_is_err_and}
use Rattle.be_base.specs.Tokens.{word, tokens, put_token}
use Rattle.be_protocol.specs.Readings.{request_of}
use Rattle.be_protocol.specs.Requests.{plain_request, TakesMemory}
use Rattle.be_mirror.specs.Asked.{mirror_answered, is_mirror_command, mirror_request_of, ReadsMirrorAsk}
use Rattle.be_mirror.proofs.Commanding.{command_same, asked_kept}
use Rattle.be_mirror.proofs.asking.read_ask.Goals as goal

pub returns-clause-read : goal.returns-clause-read
returns-clause-read c =
    let s = c.args.schema.now in
    let w = c.in-Found-Word-default.word.now in
    let rest = tokens c.in-Found-Word-default.field-1.now in
    let is : is_mirror_command w ≡ true = search rules in
    let lexed : tokens c.args.text.now ≡ put_token (word w) rest = search rules in
    let read : request_of s (tokens c.args.text.now) ≡ plain_request c.in_ok-request.request = c.in_ok-request.ensures.read in
    sym (c.of.ensures.ask ∙ ap mirror_answered (sym read) ∙ subst (λ o. mirror_answered (request_of s o) ≡ mirror_request_of s o) (sym lexed) (ap mirror_answered (command_same s w rest is) ∙ asked_kept s w rest))

pub returns-in_err-request-clause-read : goal.returns-in_err-request-clause-read
returns-in_err-request-clause-read c =
    let s = c.args.schema.now in
    let w = c.in-Found-Word-default.word.now in
    let rest = tokens c.in-Found-Word-default.field-1.now in
    let is : is_mirror_command w ≡ true = search rules in
    let lexed : tokens c.args.text.now ≡ put_token (word w) rest = search rules in
    let takes : TakesMemory (mirror_request_of s (tokens c.args.text.now)) = subst TakesMemory (subst (λ o. request_of s o ≡ mirror_request_of s o) (sym lexed) (command_same s w rest is)) c.in_err-request.ensures.read in
    let p = err_from_is_err_and c.from_residual.result c.from_residual.ensures.1 in
    subst (λ r. ReadsMirrorAsk r (mirror_request_of s (tokens c.args.text.now))) (sym p.1) takes
