use Rattle.std.proofs.Common.{◌≡◌, drop}
use Rattle.std.specs.List.{list_any}
use Rattle.be_model.specs.declared.preds.Pred.{Pred}
use Rattle.be_shape.specs.Plain.{parts_as}
use Rattle.be_shape.specs.Shape.{attrs_of}
use Rattle.be_plan.specs.Shifts.{gains_among}
use Rattle.be_plan.proofs.movers.gains_by.Given as goal

-- one gains where one of those that are left does
abbrev pub invariant-loop-pred : goal.invariant-loop-pred
invariant-loop-pred l =
    list_any (λ (p : Pred). gains_among l.m.s.now (attrs_of (parts_as l.m.parts.now)) l.m.from l.m.row.now p.attr) (drop l.pred-index l.preds) ≡ list_any (λ (p : Pred). gains_among l.m.s.now (attrs_of (parts_as l.m.parts.now)) l.m.from l.m.row.now p.attr) l.preds
