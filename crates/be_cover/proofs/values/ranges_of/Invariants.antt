use Rattle.std.proofs.Common.{drop}
use Rattle.be_cover.proofs.Allowing.{Turned}
use Rattle.be_cover.proofs.values.ranges_of.Given as goal

abbrev pub invariant-loop-pred : goal.invariant-loop-pred
invariant-loop-pred l = Turned l.a (drop l.pred-index l.preds) l.preds l.initial.ranges.items l.ranges.items
