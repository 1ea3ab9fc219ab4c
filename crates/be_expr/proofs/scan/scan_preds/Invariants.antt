use Rattle.std.proofs.Common.{◌≡◌, ◌+◌, ◌≤◌, length, option_map, option_and_then}
use Rattle.be_base.specs.Tokens.{tokens}
use Rattle.be_expr.specs.Faults.{faults_of, preds_in}
use Rattle.be_expr.proofs.Joining.{preds_left, left_size}
use Rattle.be_expr.proofs.Gathered.{faults_behind}
use Rattle.be_expr.proofs.scan.scan_preds.Given as goal

abbrev pub invariant-loop-left : goal.invariant-loop-left
invariant-loop-left l = record {
  whole : option_map (faults_of l.schema) (option_and_then preds_in (tokens l.text)) ≡ option_map (faults_behind l.schema l.faults) (preds_left l.left);
  counted : l.faults.preds + left_size l.left ≤ length l.text + 1;
}

abbrev pub decreases-loop-left : goal.decreases-loop-left
decreases-loop-left l = left_size l.left
