use Rattle.std.proofs.Common.{◌≡◌, drop}
use Rattle.be_cover.specs.Ranges.{least_beyond}
use Rattle.be_cover.proofs.ranges.least_beyond.Given as goal

abbrev pub invariant-loop-range : goal.invariant-loop-range
invariant-loop-range l = least_beyond l.others (drop l.range-index l.ranges) ≡ least_beyond l.others l.ranges
