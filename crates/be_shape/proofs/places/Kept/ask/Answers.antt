use Rattle.std.proofs.Common.{◌≡◌, true, Some, IsSome, Option, sym, subst}
use Rattle.std.specs.Prelude.{option_map}
use Rattle.be_model.specs.declared.changes.Row.{Row}
use Rattle.be_model.specs.Matching.{satisfies}
use Rattle.be_shape.specs.Held.{row_of}
use Rattle.be_shape.proofs.HeldRows.{of_row, of_some, if_some}
use Rattle.be_shape.proofs.places.Kept.ask.Goals as goal

pub returns-clause-may : goal.returns-clause-may
returns-clause-may c = λ h.
    let held = c.self.inside.held in
    let met = λ (row : Row). satisfies c.args.e.now row.conj in
    let is : option_map met (row_of held) ≡ Some true = subst (λ (o : Option Row). option_map met o ≡ Some true) (sym c.self.view_is) h in
    if_some held met (subst IsSome (sym c.self.view_is) c.requires.row) is (c.ask.result.0 ≡ true) (λ row e s. c.ask.ensures.may row.conj (of_row held row c.self.invariant e).1.lanes s)

pub returns-clause-sure : goal.returns-clause-sure
returns-clause-sure c = λ h k.
    let held = c.self.inside.held in
    let met = λ (row : Row). satisfies c.args.e.now row.conj in
    subst (λ (o : Option Row). option_map met o ≡ Some true) c.self.view_is
    (of_some held met true (subst IsSome (sym c.self.view_is) c.requires.row) (λ row e. c.ask.ensures.sure row.conj (of_row held row c.self.invariant e).1.lanes h k))
