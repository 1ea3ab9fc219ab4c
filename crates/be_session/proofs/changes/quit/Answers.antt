-- The reply tells the board's answer.
use Rattle.std.proofs.Common.{sym, subst}
use Rattle.be_change.specs.Requests as asked
use Rattle.be_session.specs.Steps.{Replies}
use Rattle.be_session.proofs.Asking.{quit_replies}
use Rattle.be_session.proofs.changes.quit.Goals as goal

pub returns : goal.returns
returns g c = record {
  replies = subst (λ (t : asked.Reply). Replies (g.B.Board.state c.args.board.now).schema (asked.quit, t) (g.B.Board.state c.args.board.now) (g.B.Board.state c.leave.new.board)) (sym c.quit_reply.ensures)
      (quit_replies (g.B.Board.state c.args.board.now).schema (g.B.Board.state c.args.board.now) (g.B.Board.state c.leave.new.board) c.leave.result c.leave.ensures.asked);
}
