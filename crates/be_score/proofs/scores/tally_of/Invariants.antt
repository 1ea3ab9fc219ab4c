use Rattle.std.proofs.Common.{take}
use Rattle.be_score.specs.Tallies.{IsTally}
use Rattle.be_score.proofs.scores.tally_of.Given as goal

abbrev pub invariant-loop-place : goal.invariant-loop-place
invariant-loop-place g l = IsTally l.s (take l.place (g.R.RowList.rows l.rows)) l.tally.gains l.tally.counts
