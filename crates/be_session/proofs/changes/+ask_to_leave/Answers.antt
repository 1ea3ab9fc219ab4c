-- Memory was wanting, and the board was asked again.
use Rattle.be_session.proofs.Leaving.{asked_again}
use Rattle.be_session.proofs.changes.+ask_to_leave.Goals as goal

pub returns-in-NoMemory : goal.returns-in-NoMemory
returns-in-NoMemory g t c = record {
  asked = asked_again (g.B.Board.state c.args.board.now) (g.B.Board.state c.leave.new.self) (g.B.Board.state c.ask_to_leave.new.board) c.ask_to_leave.result
      c.in-NoMemory.ensures.asked c.ask_to_leave.ensures.asked;
}
