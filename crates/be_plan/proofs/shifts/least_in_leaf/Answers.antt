use Rattle.std.proofs.Common.{◌+◌, drop, sym, ap, ◌∙◌}
use Rattle.std.specs.Arc.{arc_value}
use Rattle.be_model.proofs.Attributes.{all_at}
use Rattle.be_shape.specs.Plain.{parts_as}
use Rattle.be_shape.specs.Shape.{attrs_of, may_stand}
use Rattle.be_plan.specs.Shifts.{gain_of, lower_id, least_gain}
use Rattle.be_plan.proofs.Rows.{at_place}
use Rattle.be_plan.proofs.Ids.{lower_assoc}
use Rattle.be_plan.proofs.shifts.least_in_leaf.Goals as goal

pub gain_at-requires-clause-may : goal.gain_at-requires-clause-may
gain_at-requires-clause-may c =
    ap (may_stand c.args.from.now.s.now) c.deref.ensures ∙ all_at (may_stand c.args.from.now.s.now) c.args.leaf.now c.loop-place.place (arc_value c.row.result.now) c.requires.may c.row.ensures

pub loop-place-preserved : goal.loop-place-preserved
loop-place-preserved c =
    let s = c.args.from.now.s.now in
    let from = c.args.from.now in
    let attrs = attrs_of (parts_as from.parts.now) in
    let i = c.loop-place.place in
    let x = arc_value c.row.result.now in
    let best = c.loop-place.best in
    let rest = least_gain s attrs from.attr (drop (i + 1) c.args.leaf.now) in
    let is = c.gain_at.ensures ∙ ap (gain_of s attrs from.attr) c.deref.ensures in
    ap (λ q. lower_id q rest) (c.lower_id-best.ensures ∙ ap (lower_id best) is) ∙ lower_assoc best (gain_of s attrs from.attr x) rest
    ∙ ap (λ rows. lower_id best (least_gain s attrs from.attr rows)) (sym (at_place c.args.leaf.now i x c.row.ensures)) ∙ c.loop-place.invariant
