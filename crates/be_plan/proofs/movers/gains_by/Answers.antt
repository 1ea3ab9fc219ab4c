use Rattle.std.proofs.Common.{◌+◌, ◌∷◌, ◌||◌, drop, sym, ap, ◌∙◌}
use Rattle.std.specs.List.{list_any}
use Rattle.std.proofs.lemmas.List.{drop_more}
use Rattle.be_model.specs.declared.preds.Pred.{Pred}
use Rattle.be_shape.specs.Plain.{parts_as}
use Rattle.be_shape.specs.Shape.{attrs_of}
use Rattle.be_plan.specs.Shifts.{gains_among}
use Rattle.be_plan.proofs.movers.gains_by.Goals as goal

pub returns-then-gains_on : goal.returns-then-gains_on
returns-then-gains_on c =
    let m = c.args.m.now in
    let any = list_any (λ (p : Pred). gains_among m.s.now (attrs_of (parts_as m.parts.now)) m.from m.row.now p.attr) in
    let preds = c.args.preds.now in
    let i = c.loop-pred.pred-index in
    let at = drop_more preds i c.pred-item.result c.loop-pred-test.true ∙ ap (λ p. p ∷ drop (i + 1) preds) (sym c.pred-item.is) in
    sym (sym c.loop-pred.invariant ∙ ap any at ∙ ap (λ t. t || any (drop (i + 1) preds)) (sym c.gains_on.ensures ∙ c.if-gains_on.true))

pub loop-pred-preserved : goal.loop-pred-preserved
loop-pred-preserved c =
    let m = c.args.m.now in
    let any = list_any (λ (p : Pred). gains_among m.s.now (attrs_of (parts_as m.parts.now)) m.from m.row.now p.attr) in
    let preds = c.args.preds.now in
    let i = c.loop-pred.pred-index in
    let at = drop_more preds i c.pred-item.result c.loop-pred-test.true ∙ ap (λ p. p ∷ drop (i + 1) preds) (sym c.pred-item.is) in
    sym (ap any at ∙ ap (λ t. t || any (drop (i + 1) preds)) (sym c.gains_on.ensures ∙ c.if-gains_on.false)) ∙ c.loop-pred.invariant
