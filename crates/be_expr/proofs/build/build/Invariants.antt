use Rattle.std.proofs.Common.{◌≡◌, ◌≤◌, length, option_and_then}
use Rattle.be_base.specs.Tokens.{tokens}
use Rattle.be_expr.specs.Faults.{preds_in}
use Rattle.be_expr.specs.Build.{built_preds}
use Rattle.be_expr.proofs.Joining.{preds_left, left_size}
use Rattle.be_expr.proofs.BuiltPreds.{joined}
use Rattle.be_expr.proofs.build.build.Given as goal

abbrev pub invariant-loop-left : goal.invariant-loop-left
invariant-loop-left l = record {
  whole : option_and_then (built_preds l.schema) (option_and_then preds_in (tokens l.text)) ≡ joined l.schema l.conj (preds_left l.left);
  few : length l.conj ≤ 32;
}

abbrev pub decreases-loop-left : goal.decreases-loop-left
decreases-loop-left l = left_size l.left
