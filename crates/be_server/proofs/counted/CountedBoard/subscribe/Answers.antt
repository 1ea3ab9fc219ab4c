-- The name is new, so the row was added, or memory was wanting.
use Rattle.std.proofs.Common.{refl}
use Rattle.be_board.specs.Local.{local_state}
use Rattle.be_server.proofs.CountedReplies.{made_or_wanting}
use Rattle.be_server.proofs.counted.CountedBoard.subscribe.Goals as goal

pub unreachable-requires : goal.unreachable-requires
unreachable-requires g c =
    made_or_wanting (local_state (g.I.Index.schema c.args.self.now.board.index) c.args.self.now.board) (local_state (g.I.Index.schema c.subscribe.new.self.index) c.subscribe.new.self)
    c.args.name c.args.conj c.subscribe.result refl c.requires.free c.subscribe.ensures.asked c.in_default.not-Done c.in_default.not-NoMemory
