use Rattle.std.proofs.Common.{◌∙◌, ap, arith, length, option_map}
use Rattle.be_base.specs.Tokens.{tokens}
use Rattle.be_expr.specs.declared.faults.Faults.{Faults}
use Rattle.be_expr.proofs.Joining.{preds_left, left_size, left_size_within}
use Rattle.be_expr.proofs.Gathered.{faults_behind, one_more_pred}
use Rattle.be_expr.proofs.scan.scan_preds.Goals as goal

pub loop-left-preserved : goal.loop-left-preserved
loop-left-preserved c =
    let s = c.args.schema.now in
    let faults = c.loop-left.faults in
    record {
      whole = c.loop-left.invariant.whole ∙ ap (λ left. option_map (faults_behind s faults) (preds_left left)) c.in-Some.is
          ∙ one_more_pred s faults c.then-faults.result c.in-Some-scan_pred.next (tokens c.in-Some.text.now) (tokens c.in-Some-scan_pred.rest.now) c.in_ok-left.left
          c.then-faults.ensures c.in-Some-scan_pred.ensures.faults c.in_ok-left.ensures.end;
      counted = omega (
        arith,
        ap left_size c.in-Some.is,
        ap (λ (f : Faults). f.preds) c.then-faults.ensures,
        c.in-Some-scan_pred.ensures.one,
        c.in-Some-scan_pred.ensures.shorter,
        left_size_within c.in_ok-left.left (length c.in-Some-scan_pred.rest.now) c.in_ok-left.ensures.shorter,
      );
    }
