use Rattle.std.proofs.Common.{◌≡◌, Bool, true, false, refl, sym, ap, ◌∙◌}
use Rattle.be_model.specs.Matching.{satisfies}
use Rattle.be_shape.specs.Held.{told_of, few_in}
use Rattle.be_shape.specs.Lanes.{passes_lanes}
use Rattle.be_shape.specs.Told.{is_sure}
use Rattle.be_shape.proofs.HeldRows.{of_row}
use Rattle.be_shape.proofs.held.Held.slots_on.Goals as goal

same : (a b : Bool) → (a ≡ true → b ≡ true) → (b ≡ true → a ≡ true) → a ≡ b
same true b k l = sym (k refl)
same false true k l = l refl
same false false k l = refl

pub returns-then-are_on : goal.returns-then-are_on
returns-then-are_on c = λ row told is e single.
    let held = c.args.self.now in
    let of = of_row held row told is in
    let sure = ap is_sure (sym c.told.ensures) ∙ sym c.is_sure.ensures ∙ c.if-is_sure.true in
    same (satisfies e row.conj) (passes_lanes e (few_in held)) (of.1.lanes.lost e single) (of.1.lanes.sure sure e single) ∙ ap (passes_lanes e) c.lanes.ensures ∙ c.are_on.ensures e (told_of held) c.if-are_on.true
