use Rattle.std.proofs.Common.{◌≡◌, ◌≤◌, length}
use Rattle.be_shape.proofs.BlockColumns.{AreCollected}
use Rattle.be_shape.proofs.columns.collect.Given as goal

-- the places so far were looked at
abbrev pub invariant-loop-at : goal.invariant-loop-at
invariant-loop-at l = (l.count ≤ l.at) × (length l.met ≡ 32) × AreCollected l.passes l.met l.count l.at
