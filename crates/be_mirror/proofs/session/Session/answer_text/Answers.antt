-- Memory was wanting to a line that asks for a read.
use Rattle.std.proofs.Common.{rules, ◌≡◌, subst}
use Rattle.be_base.specs.Tokens.{tokens}
use Rattle.be_model.specs.Schemas.{Attributes}
use Rattle.be_change.specs.Requests as request
use Rattle.be_protocol.specs.Requests.{TakesMemory}
use Rattle.be_mirror.specs.Asked.{mirror_request_of}
use Rattle.be_mirror.proofs.Commanding.{only_reads}
use Rattle.be_mirror.proofs.Said.{says_short}
use Rattle.be_mirror.proofs.Stepping.{reading_is_no_quit, wanting_replies}
use Rattle.be_mirror.proofs.session.Session.answer_text.Goals as goal

pub returns-in-Err-clause-gives : goal.returns-in-Err-clause-gives
returns-in-Err-clause-gives g c =
    let s = g.J.Naming.schema in
    let ts = tokens c.args.text.now in
    let glass = c.args.self.now in
    let is : c.deref.result.now ≡ s = search rules in
    let takes : TakesMemory (mirror_request_of s ts) = subst (λ (a : Attributes). TakesMemory (mirror_request_of a ts)) is c.in-Err.ensures.read in
    let reads = only_reads s ts takes in
    says_short s (mirror_request_of s ts) request.no_memory glass glass _ _ c.tell.result (reading_is_no_quit (mirror_request_of s ts) reads) (wanting_replies s (mirror_request_of s ts) glass reads) c.tell.ensures.says
