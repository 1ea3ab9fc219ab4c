-- The line was refused, as far as the sink took the reply.
use Rattle.std.proofs.Common.{None, refl}
use Rattle.be_change.specs.Requests as asked
use Rattle.be_io.specs.Outside.{sink_state}
use Rattle.be_protocol.specs.declared.short.Short.TheVariants.{Refused}
use Rattle.be_protocol.specs.declared.requests.Refusal.TheVariants.{Long}
use Rattle.be_session.proofs.Said.{replies_refused, says_short}
use Rattle.be_session.proofs.serve.SessionReplier.refuse_long.Goals as goal

pub returns-clause-gives : goal.returns-clause-gives
returns-clause-gives g c = λ n.
    let b = g.B.Board.state c.args.self.now.board.now in
    let s = c.args.self.now.schema.now in
    says_short s (asked.refused asked.long) (Refused Long) b b (sink_state g.K.Sink c.args.out.now) (sink_state g.K.Sink c.tell.new.out) c.tell.result refl (replies_refused s asked.long b) c.tell.ensures.says
