-- Room is let go behind an answer.
use Rattle.std.proofs.Common.{sym, subst}
use Rattle.be_base.specs.Tokens.{tokens}
use Rattle.be_io.specs.Outside.{sink_state}
use Rattle.be_published.specs.States.{GlassState}
use Rattle.be_protocol.specs.Conduct.{GivesReply}
use Rattle.be_mirror.specs.Asked.{mirror_request_of}
use Rattle.be_mirror.specs.Sessions.{mirror_conduct}
use Rattle.be_mirror.proofs.session.SessionReplier.answer.Goals as goal

pub returns-clause-gives : goal.returns-clause-gives
returns-clause-gives g c =
    let s = g.J.Naming.schema in
    let turn = c.answer_text-turn.result in
    subst (λ (v : GlassState). GivesReply (mirror_conduct s) (mirror_request_of s (tokens c.args.text.now)) c.args.self.now v (sink_state g.K.Sink c.args.out.now) (sink_state g.K.Sink c.answer_text-turn.new.out) turn.by turn.written)
    (sym c.self.view_is) c.answer_text-turn.ensures.gives
