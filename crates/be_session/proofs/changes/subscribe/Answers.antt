-- The reply tells the board's answer.
use Rattle.std.proofs.Common.{sym, subst}
use Rattle.be_change.specs.Requests as asked
use Rattle.be_session.specs.Steps.{Replies}
use Rattle.be_session.proofs.Asking.{subscribe_replies}
use Rattle.be_session.proofs.changes.subscribe.Goals as goal

pub returns : goal.returns
returns g c = record {
  replies = subst (λ (t : asked.Reply). Replies (g.B.Board.state c.args.board.now).schema (asked.subscribe c.args.subscription.name c.args.subscription.conj, t) (g.B.Board.state c.args.board.now) (g.B.Board.state c.subscribe.new.self)) (sym c.reply_of.ensures)
      (subscribe_replies (g.B.Board.state c.args.board.now).schema (g.B.Board.state c.args.board.now) (g.B.Board.state c.subscribe.new.self) c.args.subscription.name c.args.subscription.conj c.subscribe.result c.subscribe.ensures.asked);
}
