-- The request was answered, or memory was wanting to read it.
use Rattle.std.proofs.Common.{sym, subst}
use Rattle.be_io.specs.Lines as line
use Rattle.be_io.specs.Outside.{sink_state}
use Rattle.be_change.specs.Requests as asked
use Rattle.be_protocol.specs.Conduct.{GivesReply}
use Rattle.be_protocol.specs.Readings.{reading}
use Rattle.be_session.specs.Steps.{session_conduct}
use Rattle.be_session.proofs.Said.{says_unread}
use Rattle.be_session.proofs.serve.answer_line.Goals as goal

pub returns-in-Ok-clause-gives : goal.returns-in-Ok-clause-gives
returns-in-Ok-clause-gives g c =
    subst (λ (r : asked.Request). GivesReply (session_conduct c.args.schema.now) r (g.B.Board.state c.args.board.now) (g.B.Board.state c.answer.new.board) (sink_state g.K.Sink c.args.out.now) (sink_state g.K.Sink c.answer.new.out) c.answer.result.by c.answer.result.written)
    (sym c.in-Ok.ensures.read) c.answer.ensures.gives

pub returns-in-Err-clause-gives : goal.returns-in-Err-clause-gives
returns-in-Err-clause-gives g c =
    says_unread c.args.schema.now (reading c.args.schema.now (line.text c.args.text.now)) (g.B.Board.state c.args.board.now) (sink_state g.K.Sink c.args.out.now) (sink_state g.K.Sink c.tell.new.out) c.tell.result
    c.in-Err.ensures.read c.tell.ensures.says
