use Rattle.std.proofs.Common.{◌≡◌, ◌++◌, take, All, codes}
use Rattle.std.specs.List.{flat_map}
use Rattle.be_model.specs.declared.preds.Pred.{Pred}
use Rattle.be_expr.specs.Writing.{pred_text, IsSpelled}
use Rattle.be_expr.proofs.writing.put_preds.Given as goal

abbrev pub invariant-loop-pred : goal.invariant-loop-pred
invariant-loop-pred l = record {
  written : l.text.items ≡ l.initial.text.items ++ flat_map (λ (p : Pred). codes " and " ++ pred_text l.schema p) (take l.pred-index l.rest);
  spelled : All (IsSpelled l.schema) (take l.pred-index l.rest);
}
