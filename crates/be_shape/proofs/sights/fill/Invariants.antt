use Rattle.std.proofs.Common.{◌≡◌, length}
use Rattle.be_shape.proofs.SightValues.{AreNoted}
use Rattle.be_shape.proofs.sights.fill.Given as goal

abbrev pub invariant-loop-item : goal.invariant-loop-item
invariant-loop-item l = (length l.seen ≡ 256) × AreNoted l.seen l.items l.item-index
