use Rattle.std.proofs.Common.{min}
use Rattle.be_hub.proofs.AtBoard.{ok_at, err_at, on_err_at}
use Rattle.be_hub.proofs.board.DeskBoardBoard.send.Goals as goal

pub returns-clause-sends : goal.returns-clause-sends
returns-clause-sends g c = c.send.ensures.sends (min g.row.TENDS 1) c.args.self.now.calls

pub returns-clause-posts : goal.returns-clause-posts
returns-clause-posts g c = ok_at _ c.send.result (min g.row.TENDS 1) c.args.self.now.calls c.send.ensures.posts

pub returns-clause-refused : goal.returns-clause-refused
returns-clause-refused g c = err_at _ c.send.result (min g.row.TENDS 1) c.args.self.now.calls c.send.ensures.refused

pub returns-clause-kept : goal.returns-clause-kept
returns-clause-kept g c = on_err_at _ c.send.result (min g.row.TENDS 1) c.args.self.now.calls c.send.ensures.kept
