use Rattle.std.proofs.Common.{rules, sym, subst}
use Rattle.be_base.specs.Tokens.{tokens}
use Rattle.be_io.specs.Outside.{sink_state}
use Rattle.be_change.specs.Requests.{Request}
use Rattle.be_protocol.specs.Conduct.{GivesReply}
use Rattle.be_protocol.specs.Requests.{TakesMemory}
use Rattle.be_follow.specs.Asked.{asked_of}
use Rattle.be_follow.specs.Reads.{reads_conduct}
use Rattle.be_follow.proofs.Answering.{only_events}
use Rattle.be_follow.proofs.reads.AskedFollowerReplier.answer.Goals as goal

pub returns-in-Err-clause-gives : goal.returns-in-Err-clause-gives
returns-in-Err-clause-gives g c =
    let s = c.args.self.now.follower.now.schema in
    let h = c.args.self.now.follower.now.fed.list in
    let takes : TakesMemory (asked_of s (tokens c.args.text.now)) = search rules in
    let event = only_events s (tokens c.args.text.now) takes in
    subst (λ (r : Request). GivesReply (reads_conduct s) r h h (sink_state g.K.Sink c.args.out.now) (sink_state g.K.Sink c.want.new.out) c.want.result.by c.want.result.written) (sym event.1) (c.want.ensures.gives s h event.0)
