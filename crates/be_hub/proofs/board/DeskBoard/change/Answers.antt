use Rattle.std.proofs.Common.{min, arith}
use Rattle.be_desk.specs.Asks.{request_of}
use Rattle.be_hub.proofs.Asking.{asked}
use Rattle.be_hub.proofs.board.DeskBoard.change.Goals as goal

pub returns : goal.returns
returns g c =
    let e = c.change-answer.ensures in
    let splits = c.splits.ensures in
    let most = c.splits.type_inv in
    asked (min g.row.TENDS 1) g.J.Naming.schema c.args.self.now.calls c.args.self.now.seat c.change-answer.new.seat (request_of c.args.ask) c.change-answer.result e.seat e.counts e.answers e.formed (omega (arith, splits, most))
