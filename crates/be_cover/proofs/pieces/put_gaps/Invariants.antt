use Rattle.std.proofs.Common.{◌≡◌, ◌≤ℤ◌, ◌++◌, drop}
use Rattle.be_base.specs.declared.limits.TheConstants.{FIRST_INT, LAST_INT}
use Rattle.be_cover.specs.Pieces.{gaps}
use Rattle.be_cover.proofs.pieces.put_gaps.Given as goal

abbrev pub invariant-loop-x : goal.invariant-loop-x
invariant-loop-x l = record {
  low : FIRST_INT ≤ℤ l.left.0;
  high : l.left.1 ≤ℤ LAST_INT;
  rest : l.out.items ++ gaps (drop l.x-index l.numbers) l.left ≡ l.fn.out.items ++ gaps l.numbers l.fn.range;
}
