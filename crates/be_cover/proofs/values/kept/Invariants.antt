use Rattle.std.proofs.Common.{◌≡◌, take}
use Rattle.std.specs.List.{flat_map}
use Rattle.be_cover.specs.Pieces.{pieces}
use Rattle.be_cover.proofs.values.kept.Given as goal

abbrev pub invariant-loop-range : goal.invariant-loop-range
invariant-loop-range l = l.left.items ≡ flat_map (pieces l.op) (take l.range-index l.ranges)
