use Rattle.std.proofs.Common.{◌≡◌, ◌&&◌, sym, ap, ◌∙◌, arith}
use Rattle.be_shape.specs.Plain.{parts_as}
use Rattle.be_shape.specs.Shape.{attrs_of}
use Rattle.be_plan.specs.Plan.{gains}
use Rattle.be_plan.proofs.Gains.{none_on_own}
use Rattle.be_plan.proofs.movers.gains_on.Goals.{then-a-m, else-a-m}
use Rattle.be_plan.proofs.movers.gains_on.Goals as goal

pub returns-else-is_among : goal.returns-else-is_among
returns-else-is_among c =
    let m = c.args.m.now in
    let a = c.args.a in
    elim c.if-a-m.branch [
      | then-a-m w ↦ c.if-is_among.false ∙ sym (ap (λ t. t && gains m.s.now m.from m.row.now a) (sym w.is_among.ensures ∙ sym w.value-is ∙ c.if-is_among.false))
      | else-a-m w ↦
          let same : a.0 ≡ m.from.0 = omega (arith, w.if-a-m.false) in
          c.if-is_among.false ∙ sym (none_on_own m.s.now (attrs_of (parts_as m.parts.now)) m.from m.row.now a same)
    ]
