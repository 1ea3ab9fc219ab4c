-- The board refused, and the reply says why.
use Rattle.std.proofs.Common.{sym, subst}
use Rattle.be_board.specs.State.{BoardState}
use Rattle.be_change.specs.Requests as asked
use Rattle.be_protocol.specs.declared.short.Short.{Short}
use Rattle.be_protocol.specs.Short.{plain_reply}
use Rattle.be_session.specs.Steps.{Replies}
use Rattle.be_session.proofs.SendingOn.{refused_send}
use Rattle.be_session.proofs.room.Room.send.Goals as goal

pub returns-in-Err : goal.returns-in-Err
returns-in-Err g c =
    let b : BoardState = g.B.Board.state c.args.board.now in
    let b' : BoardState = g.B.Board.state c.send.new.self in
    record {
      replies = subst (λ (short : Short). Replies b.schema (asked.sending c.args.event.now, plain_reply short) b b') (sym c.from.ensures)
          (refused_send b.schema c.args.event.now b b' c.in-Err.refused c.send.ensures.sends c.in-Err.ensures.kept c.in-Err.ensures.refused);
    }
