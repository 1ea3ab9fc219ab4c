use Rattle.std.proofs.Common.{◌≡◌, ◌++◌, drop}
use Rattle.be_cover.specs.Pieces.{before, runs}
use Rattle.be_cover.proofs.pieces.put_runs.Given as goal

abbrev pub invariant-loop-x : goal.invariant-loop-x
invariant-loop-x l = l.out.items ++ runs (drop l.x-index l.numbers) l.range l.run ≡ l.fn.out.items ++ runs l.numbers l.range (before l.range)
