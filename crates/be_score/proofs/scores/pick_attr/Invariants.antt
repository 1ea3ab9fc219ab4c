use Rattle.be_score.proofs.BestSoFar.{IsBestBelow}
use Rattle.be_score.proofs.scores.pick_attr.Given as goal

abbrev pub invariant-loop-number : goal.invariant-loop-number
invariant-loop-number g l = IsBestBelow l.number l.s (g.R.RowList.rows l.rows) l.used l.alpha l.best
