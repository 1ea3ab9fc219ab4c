use Rattle.std.proofs.Common.{◌≡◌, true, Some, ℤ, rules, refl, sym, ap, ap₂, ◌∙◌, w32, w64, FitsSigned, to_z, of_z}
use Rattle.std.proofs.lemmas.Int.{to_z-of_z}
use Rattle.be_model.specs.Hulls.{first_of_values, last_of_values}
use Rattle.be_model.specs.Matching.{is_met, values_of}
use Rattle.be_shape.specs.Glances.{small}
use Rattle.be_shape.specs.Lanes.{raised, slot_of, seen}
use Rattle.be_shape.specs.SetNotes.{may_be}
use Rattle.be_shape.proofs.GapSets.{by_number}
use Rattle.be_shape.proofs.SetNotes.{noted}
use Rattle.be_shape.proofs.SetTests.{small_is, small_single, seen_let}
use Rattle.be_shape.proofs.SightValues.{values_single}
use Rattle.be_shape.proofs.few_tests.FewTests.set_told.Goals as goal

pub returns : goal.returns
returns c = λ e s h.
    let xs = c.in-OneOf.xs in
    let a = c.args.pred.now.attr in
    let o = values_of e a in
    let at = c.in_ok-at.at in
    let middle = c.in_ok-middle.middle in
    let slot = c.slot_of.result in
    let ends = c.ends-low.result in
    let low_fits : FitsSigned w64 ends.0 = search rules in
    let high_fits : FitsSigned w64 ends.1 = search rules in
    let low : to_z w64 (of_z w64 ends.0) ≡ first_of_values xs = to_z-of_z w64 ends.0 low_fits ∙ ap (λ (r : ℤ × ℤ). r.0) c.ends-low.ensures in
    let high : to_z w64 (of_z w64 ends.1) ≡ last_of_values xs = to_z-of_z w64 ends.1 high_fits ∙ ap (λ (r : ℤ × ℤ). r.1) c.ends-low.ensures in
    let x = c.in_ok-small.field-0 in
    let z = c.in_ok-small-2.field-0 in
    let x_fits : FitsSigned w32 x = search rules in
    let z_fits : FitsSigned w32 z = search rules in
    let first : small (first_of_values xs) ≡ Some x = sym (ap small low) ∙ sym c.small.ensures ∙ c.in_ok-small.was in
    let last : small (last_of_values xs) ≡ Some z = sym (ap small high) ∙ sym c.small-2.ensures ∙ c.in_ok-small-2.was in
    let is : slot ≡ slot_of (first_of_values xs, last_of_values xs) =
    c.slot_of.ensures ∙ ap₂ (λ (v w : ℤ). slot_of (v, w)) (to_z-of_z w32 x x_fits ∙ small_is (first_of_values xs) x first) (to_z-of_z w32 z z_fits ∙ small_is (last_of_values xs) z last) in
    let lets : may_be slot middle (seen o) ≡ true =
    seen_let xs slot middle o (values_single e a s) (sym (ap (is_met o) c.in-OneOf.is) ∙ h)
    (λ v k among. ap (λ r. may_be r middle (raised v)) is
    ∙ c.in_ok-middle.ensures.set (small_single (first_of_values xs) x first) (small_single (last_of_values xs) z last) v k among) in
    noted at middle c.args.self.now e c.in_ok-middle.ensures.low
    (c.in_ok-at.ensures.passes e middle (ap (λ b. may_be slot middle (seen (values_of e b))) (sym (by_number a a.0 refl)) ∙ lets))
