use Rattle.std.proofs.Common.{◌+◌, ◌*◌, ◌/◌, arith}
use Rattle.be_copy.specs.Bitmaps.{is_noted}
use Rattle.be_copy.proofs.Blocks.{next_later}
use Rattle.be_copy.proofs.bitmaps.Bitmaps.next.Goals as goal

pub returns-in-None : goal.returns-in-None
returns-in-None c =
    next_later (is_noted c.args.self.now.blocks.entries c.args.key) c.args.from ((c.args.from / 32 + 1) * 32) c.after.result (omega arith) c.in-None.ensures.none c.after.ensures
