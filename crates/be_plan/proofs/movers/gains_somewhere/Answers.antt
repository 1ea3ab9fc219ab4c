use Rattle.std.proofs.Common.{◌≡◌, false, Some, option_map, sym, ap, ◌∙◌}
use Rattle.be_model.specs.declared.changes.Row.{Row}
use Rattle.be_shape.specs.declared.listings.RowAttrs.{RowAttrs}
use Rattle.be_shape.specs.Listed.{any_listed, attrs_of, is_many}
use Rattle.be_shape.specs.Plain.{parts_as}
use Rattle.be_shape.specs.Shape.{attrs_of as attrs_of_parts}
use Rattle.be_shape.proofs.FewAttrs.{any_is_listed}
use Rattle.be_plan.specs.Shifts.{gains_among}
use Rattle.be_plan.proofs.movers.gains_somewhere.Goals as goal

pub returns-else-is_many : goal.returns-else-is_many
returns-else-is_many c =
    let m = c.args.m.now in
    let test = gains_among m.s.now (attrs_of_parts (parts_as m.parts.now)) m.from m.row.now in
    let listed : attrs_of m.row.now.conj ≡ c.attrs-attrs.result = some_same (ap (option_map (λ (row : Row). attrs_of row.conj)) (sym m.at) ∙ c.attrs-attrs.ensures) in
    let few : is_many (attrs_of m.row.now.conj) ≡ false = ap is_many listed ∙ sym c.is_many.ensures ∙ c.if-is_many.false in
    c.gains_on_any.ensures ∙ ap (any_listed test) (sym listed) ∙ sym (any_is_listed m.row.now.conj test few)
  where
    some_same : {x y : RowAttrs} → Some x ≡ Some y → x ≡ y
    some_same h = cc
