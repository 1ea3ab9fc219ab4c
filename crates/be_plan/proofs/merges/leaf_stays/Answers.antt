use Rattle.std.proofs.Common.{◌≡◌, true, not, ◌&&◌, ◌+◌, drop, sym, ap, ◌∙◌}
use Rattle.std.specs.Arc.{arc_value}
use Rattle.be_model.specs.Lies.{row_lies}
use Rattle.be_model.proofs.Attributes.{all_at}
use Rattle.be_shape.specs.Plain.{plain}
use Rattle.be_plan.specs.Merges.{passes_elsewhere, all_stay}
use Rattle.be_plan.proofs.Rows.{at_place}
use Rattle.be_plan.proofs.merges.leaf_stays.Goals as goal

pub passes_elsewhere-requires : goal.passes_elsewhere-requires
passes_elsewhere-requires c =
    ap (row_lies c.args.s.now) c.deref.ensures ∙ all_at (row_lies c.args.s.now) c.args.leaf.now c.loop-place.place (arc_value c.row.result.now) c.requires c.row.ensures

pub returns-then-passes_elsewhere : goal.returns-then-passes_elsewhere
returns-then-passes_elsewhere c =
    let a = c.args.above.now in
    let stay = all_stay c.args.s.now a.hop a.range (plain a.node.now) in
    let i = c.loop-place.place in
    let passes = passes_elsewhere c.args.s.now a.hop a.range (plain a.node.now) in
    let p : passes (arc_value c.row.result.now) ≡ true = ap passes (sym c.deref.ensures) ∙ sym c.passes_elsewhere.ensures ∙ c.if-passes_elsewhere.true in
    sym (sym c.loop-place.invariant ∙ ap stay (at_place c.args.leaf.now i (arc_value c.row.result.now) c.row.ensures) ∙ ap (λ t. not t && stay (drop (i + 1) c.args.leaf.now)) p)

pub loop-place-preserved : goal.loop-place-preserved
loop-place-preserved c =
    let a = c.args.above.now in
    let stay = all_stay c.args.s.now a.hop a.range (plain a.node.now) in
    let i = c.loop-place.place in
    let passes = passes_elsewhere c.args.s.now a.hop a.range (plain a.node.now) in
    let p = ap passes (sym c.deref.ensures) ∙ sym c.passes_elsewhere.ensures ∙ c.if-passes_elsewhere.false in
    sym (ap stay (at_place c.args.leaf.now i (arc_value c.row.result.now) c.row.ensures) ∙ ap (λ t. not t && stay (drop (i + 1) c.args.leaf.now)) p) ∙ c.loop-place.invariant
