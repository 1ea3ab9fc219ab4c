use Rattle.std.proofs.Common.{◌≡◌, ◌++◌, codes, append_assoc, ◌∙◌, ap, sym, subst, true}
use Rattle.std.proofs.lemmas.List.{take_all}
use Rattle.std.specs.List.{flat_map}
use Rattle.std.proofs.lemmas.List.Elements.{All-more}
use Rattle.std.proofs.lemmas.List.Sums.{AllPass-from_list_all}
use Rattle.be_model.specs.declared.preds.Pred.{Pred}
use Rattle.be_model.specs.Lies.{pred_lies, conj_lies}
use Rattle.be_model.proofs.Attributes.{and_right}
use Rattle.be_expr.specs.Writing.{pred_text, expr_text, IsSpelled}
use Rattle.be_model.proofs.Pieces.{joined_more}
use Rattle.be_expr.proofs.writing.put_preds.Goals as goal

pub put_pred-requires-in-loop-pred : goal.put_pred-requires-in-loop-pred
put_pred-requires-in-loop-pred c =
    let s = c.args.schema.now in
    let lie = and_right (pred_lies s c.in-Some.first.now) (conj_lies s c.in-Some.rest.now) (subst (λ ps. conj_lies s ps ≡ true) c.in-Some.ensures.cases.0 c.requires) in
    ap (pred_lies s) c.pred-item.is ∙ AllPass-from_list_all (pred_lies s) c.in-Some.rest.now lie c.loop-pred.pred-index c.pred-item.result c.loop-pred-test.true

pub loop-pred-preserved : goal.loop-pred-preserved
loop-pred-preserved c =
    let s = c.args.schema.now in
    record {
      written = joined_more (λ (p : Pred). codes " and " ++ pred_text s p) c.in-Some.rest.now c.loop-pred.pred-index c.pred-item.result _ _ _
          c.loop-pred-test.true c.loop-pred.invariant.written
          (c.in_ok-put_pred-2.ensures.written
          ∙ ap (λ text. text ++ pred_text s c.pred-item.result) c.in_ok-extend_from_slice-2.ensures.items
          ∙ append_assoc c.loop-pred.text.items (codes " and ") (pred_text s c.pred-item.result)
          ∙ ap (λ (p : Pred). c.loop-pred.text.items ++ (codes " and " ++ pred_text s p)) c.pred-item.is);
      spelled = All-more (IsSpelled s) c.in-Some.rest.now c.loop-pred.pred-index c.pred-item.result
          c.loop-pred-test.true c.loop-pred.invariant.spelled (subst (IsSpelled s) c.pred-item.is c.in_ok-put_pred-2.ensures.spelled);
    }

pub returns-clause-written : goal.returns-clause-written
returns-clause-written c =
    let s = c.args.schema.now in
    let f = λ (p : Pred). codes " and " ++ pred_text s p in
    c.loop-pred.invariant.written
    ∙ ap (λ ps. c.put_pred.new.text.items ++ flat_map f ps) (take_all c.loop-pred.pred-index c.in-Some.rest.now c.loop-pred-test.false)
    ∙ ap (λ text. text ++ flat_map f c.in-Some.rest.now) c.in_ok-put_pred.ensures.written
    ∙ append_assoc c.args.text.now.items (pred_text s c.in-Some.first.now) (flat_map f c.in-Some.rest.now)
    ∙ ap (λ ps. c.args.text.now.items ++ expr_text s ps) (sym c.in-Some.ensures.cases.0)
