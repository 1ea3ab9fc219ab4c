use Rattle.std.proofs.Common.{◌≡◌, Some, IsSome, Option, sym, subst, ◌∙◌}
use Rattle.std.specs.Prelude.{option_map}
use Rattle.be_model.specs.declared.changes.Row.{Row}
use Rattle.be_model.specs.Rows.{id_of}
use Rattle.be_shape.proofs.HeldRows.{of_row, of_some, short_says}
use Rattle.be_shape.proofs.places.Kept.id.Goals as goal

pub returns-else-number-eq-WIDE : goal.returns-else-number-eq-WIDE
returns-else-number-eq-WIDE c =
    let held = c.self.inside.held in
    let number = c.short-number.result in
    subst (λ (o : Option Row). option_map id_of o ≡ Some c.from.result) c.self.view_is
    (of_some held id_of c.from.result (subst IsSome (sym c.self.view_is) c.requires)
    (λ row e. short_says (id_of row) number (c.short-number.ensures ∙ (of_row held row c.self.invariant e).0) c.if-number-eq-WIDE.false ∙ sym c.from.ensures))
