use Rattle.std.proofs.Common.{◌≡◌, ◌+◌, ◌-◌, ◌≤◌, length, drop}
use Rattle.be_model.specs.Matching.{has_some}
use Rattle.be_model.proofs.overlaps.is_some_among.Given as goal

abbrev pub invariant-both : goal.invariant-both
invariant-both l = record {
  left : has_some l.numbers l.values ≡ has_some (drop l.i l.numbers) (drop l.k l.values);
  number : l.i ≤ length l.numbers;
  value : l.k ≤ length l.values;
}

abbrev pub decreases-both : goal.decreases-both
decreases-both l = (length l.numbers - l.i) + (length l.values - l.k)
