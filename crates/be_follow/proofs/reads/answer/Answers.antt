use Rattle.std.proofs.Common.{sym, subst}
use Rattle.be_io.specs.Outside.{sink_state}
use Rattle.be_protocol.specs.Conduct.{GivesReply}
use Rattle.be_follow.specs.Asked.{plain_ask}
use Rattle.be_follow.specs.Reads.{reads_conduct}
use Rattle.be_follow.specs.declared.asking.Ask.{Ask}
use Rattle.be_follow.proofs.reads.answer.Goals as goal

pub returns-in-Refused-clause-gives : goal.returns-in-Refused-clause-gives
returns-in-Refused-clause-gives g c =
    let s = c.args.follower.now.schema in
    let h = c.args.follower.now.fed.list in
    subst (λ (ask : Ask). GivesReply (reads_conduct s) (plain_ask ask) h h (sink_state g.K.Sink c.args.out.now) (sink_state g.K.Sink c.refuse.new.out) c.refuse.result.by c.refuse.result.written) (sym c.in-Refused.is)
    (c.refuse.ensures.gives s h)
