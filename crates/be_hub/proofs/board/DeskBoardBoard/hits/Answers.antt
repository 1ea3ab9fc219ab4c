use Rattle.std.proofs.Common.{min}
use Rattle.be_hub.proofs.AtBoard.{ok_at, err_at}
use Rattle.be_hub.proofs.board.DeskBoardBoard.hits.Goals as goal

pub returns-clause-looks : goal.returns-clause-looks
returns-clause-looks g c = c.hits.ensures.looks (min g.row.TENDS 1) c.args.self.now.calls

pub returns-clause-read : goal.returns-clause-read
returns-clause-read g c = ok_at _ c.hits.result (min g.row.TENDS 1) c.args.self.now.calls c.hits.ensures.read

pub returns-clause-refused : goal.returns-clause-refused
returns-clause-refused g c = err_at _ c.hits.result (min g.row.TENDS 1) c.args.self.now.calls c.hits.ensures.refused
