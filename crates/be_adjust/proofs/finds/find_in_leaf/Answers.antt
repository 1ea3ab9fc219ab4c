use Rattle.std.proofs.Common.{◌≡◌, true, false, sym, ap, ◌∙◌}
use Rattle.std.specs.Arc.{arc_value}
use Rattle.be_adjust.specs.Finds.{may_shift}
use Rattle.be_adjust.proofs.Finding.{first_here, first_next}
use Rattle.be_adjust.proofs.finds.find_in_leaf.Goals as goal

pub returns-then-may_shift : goal.returns-then-may_shift
returns-then-may_shift c =
    let p = may_shift c.args.to c.args.id.0 in
    let x = arc_value c.row.result.now in
    let passes : p x ≡ true = ap p (sym c.deref.ensures) ∙ sym c.may_shift.ensures ∙ c.if-may_shift.true in
    sym c.row-then-may_shift.ensures ∙ c.row.ensures ∙ sym (first_here p c.args.leaf.now c.loop-place.place x c.row.ensures passes) ∙ c.loop-place.invariant

pub loop-place-preserved : goal.loop-place-preserved
loop-place-preserved c =
    let p = may_shift c.args.to c.args.id.0 in
    let x = arc_value c.row.result.now in
    let fails : p x ≡ false = ap p (sym c.deref.ensures) ∙ sym c.may_shift.ensures ∙ c.if-may_shift.false in
    sym (first_next p c.args.leaf.now c.loop-place.place x c.row.ensures fails) ∙ c.loop-place.invariant
