use Rattle.std.proofs.Common.{min}
use Rattle.be_hub.proofs.board.DeskBoardBoard.fetch.Goals as goal

pub returns-clause-fetches : goal.returns-clause-fetches
returns-clause-fetches g c = c.fetch.ensures.fetches (min g.row.TENDS 1) c.args.self.now.calls
