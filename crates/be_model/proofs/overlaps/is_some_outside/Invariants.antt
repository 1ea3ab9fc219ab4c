use Rattle.std.proofs.Common.{◌≡◌, ◌≤◌, length, drop}
use Rattle.be_model.specs.Matching.{lacks_some}
use Rattle.be_model.proofs.overlaps.is_some_outside.Given as goal

abbrev pub invariant-loop-x : goal.invariant-loop-x
invariant-loop-x l = record {
  left : lacks_some l.numbers l.values ≡ lacks_some (drop l.x-index l.numbers) (drop l.k l.values);
  value : l.k ≤ length l.values;
}
