-- The reply tells the board's answer.
use Rattle.std.proofs.Common.{sym, subst}
use Rattle.be_change.specs.Requests as asked
use Rattle.be_session.specs.Steps.{Replies}
use Rattle.be_session.proofs.Asking.{unsubscribe_replies}
use Rattle.be_session.proofs.changes.unsubscribe.Goals as goal

pub returns : goal.returns
returns g c = record {
  replies = subst (λ (t : asked.Reply). Replies (g.B.Board.state c.args.board.now).schema (asked.unsubscribe c.args.name, t) (g.B.Board.state c.args.board.now) (g.B.Board.state c.unsubscribe.new.self)) (sym c.reply_of.ensures)
      (unsubscribe_replies (g.B.Board.state c.args.board.now).schema (g.B.Board.state c.args.board.now) (g.B.Board.state c.unsubscribe.new.self) c.args.name c.unsubscribe.result c.unsubscribe.ensures.asked);
}
