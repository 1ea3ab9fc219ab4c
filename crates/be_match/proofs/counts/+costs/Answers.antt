use Rattle.std.proofs.Common.{rules, ap₂, ◌≡◌, true, sym, ap, ◌∙◌, subst, arith}
use Rattle.be_shape.specs.declared.nodes.Node.TheViews.{out-Node, out-Part, the_lemmas}
use Rattle.be_shape.specs.Plain.{plain, parts_as, half_as}
use Rattle.be_shape.specs.Shape.{whole}
use Rattle.be_shape.specs.Search.{visited, visited_in_parts, visited_in_half}
use Rattle.be_model.specs.Matching.{is_assigned}
use Rattle.be_model.specs.Costs.{cost}
use Rattle.be_match.specs.Leaves.{AreCountable}
use Rattle.be_match.proofs.Sizes.{part_countable, node_costs, parts_sizes, parts_countable, low_countable, high_countable}
use Rattle.be_match.proofs.counts.+costs.Goals as goal

pub node_cost-parts_cost-parts-requires : goal.node_cost-parts_cost-parts-requires
node_cost-parts_cost-parts-requires t c =
    (search (rules, the_lemmas), subst (λ ps. AreCountable (visited_in_parts c.args.s.now c.args.e.now (parts_as ps))) (sym c.as_slice.ensures.value) (parts_countable c.args.s.now c.args.e.now c.args.range c.args.n.now c.requires.countable))

pub node_cost-half_cost-low-requires : goal.node_cost-half_cost-low-requires
node_cost-half_cost-low-requires t c =
    (search (rules, the_lemmas), (c.lower_range.ensures.bounded, subst (λ r. AreCountable (visited_in_half c.args.s.now c.args.e.now r (half_as (out-Node c.args.n.now).low))) (sym c.lower_range.ensures.range) (low_countable c.args.s.now c.args.e.now c.args.range c.args.n.now c.requires.countable)))

pub node_cost-half_cost-high-requires : goal.node_cost-half_cost-high-requires
node_cost-half_cost-high-requires t c =
    (search (rules, the_lemmas), (c.upper_range.ensures.bounded, subst (λ r. AreCountable (visited_in_half c.args.s.now c.args.e.now r (half_as (out-Node c.args.n.now).high))) (sym c.upper_range.ensures.range) (high_countable c.args.s.now c.args.e.now c.args.range c.args.n.now c.requires.countable)))

pub node_cost-joined-requires-clause-visits : goal.node_cost-joined-requires-clause-visits
node_cost-joined-requires-clause-visits t c =
    let z = node_costs c.args.s.now c.args.e.now c.args.range c.args.n.now c.parts_cost-parts.result c.half_cost-low.result c.half_cost-high.result c.as_slice.result.now c.lower_range.result c.upper_range.result c.as_slice.ensures.value c.lower_range.ensures.range c.upper_range.ensures.range
    c.parts_cost-parts.ensures c.half_cost-low.ensures c.half_cost-high.ensures in
    omega (arith, z.visits, c.requires.countable.few)

pub node_cost-joined-requires-clause-tested : goal.node_cost-joined-requires-clause-tested
node_cost-joined-requires-clause-tested t c =
    let z = node_costs c.args.s.now c.args.e.now c.args.range c.args.n.now c.parts_cost-parts.result c.half_cost-low.result c.half_cost-high.result c.as_slice.result.now c.lower_range.result c.upper_range.result c.as_slice.ensures.value c.lower_range.ensures.range c.upper_range.ensures.range
    c.parts_cost-parts.ensures c.half_cost-low.ensures c.half_cost-high.ensures in
    omega (arith, z.tested, c.requires.countable.few_rows)

pub node_cost-returns : goal.node_cost-returns
node_cost-returns t c =
    let z = node_costs c.args.s.now c.args.e.now c.args.range c.args.n.now c.parts_cost-parts.result c.half_cost-low.result c.half_cost-high.result c.as_slice.result.now c.lower_range.result c.upper_range.result c.as_slice.ensures.value c.lower_range.ensures.range c.upper_range.ensures.range
    c.parts_cost-parts.ensures c.half_cost-low.ensures c.half_cost-high.ensures in
    c.joined.ensures ∙ ap₂ cost z.visits z.tested

pub part_cost-node_cost-requires : goal.part_cost-node_cost-requires
part_cost-node_cost-requires t c =
    let s = c.args.s.now in
    let e = c.args.e.now in
    let p = c.args.part.now in
    let h : is_assigned e (out-Part p).attr ≡ true = sym c.enters_part.ensures ∙ c.if-enters_part.true in
    (search (rules, the_lemmas), (c.whole_range.ensures.bounded, (c.whole_range.ensures.rising, subst (λ r. AreCountable (visited s e r (plain c.deref.result.now))) (sym c.whole_range.ensures.range) (subst (λ n. AreCountable (visited s e (whole s (out-Part p).attr) (plain n))) (sym c.deref.ensures) (part_countable s e p h c.requires.countable)))))

pub parts_cost-part_cost-requires : goal.parts_cost-part_cost-requires
parts_cost-part_cost-requires t c =
    let k = c.requires.countable in
    let i = c.loop-part.invariant in
    let z = parts_sizes c.args.s.now c.args.e.now c.args.parts.now c.loop-part.part-index c.part-item.result (omega (arith, c.loop-part-test.true)) c.part-item.is in
    (search (rules, the_lemmas), record { few = omega (arith, z.visits, k.few, i.0); few_rows = omega (arith, z.tested, k.few_rows, i.1) })

pub parts_cost-plus-cost-requires-clause-tested : goal.parts_cost-plus-cost-requires-clause-tested
parts_cost-plus-cost-requires-clause-tested t c =
    let k = c.requires.countable in
    let i = c.loop-part.invariant in
    let z = parts_sizes c.args.s.now c.args.e.now c.args.parts.now c.loop-part.part-index c.part-item.result (omega (arith, c.loop-part-test.true)) c.part-item.is in
    omega (arith, z.tested, k.few_rows, i.1, ap (λ x. x.tested) c.part_cost.ensures)

pub parts_cost-loop-part-preserved : goal.parts_cost-loop-part-preserved
parts_cost-loop-part-preserved t c =
    let k = c.requires.countable in
    let i = c.loop-part.invariant in
    let z = parts_sizes c.args.s.now c.args.e.now c.args.parts.now c.loop-part.part-index c.part-item.result (omega (arith, c.loop-part-test.true)) c.part-item.is in
    (omega (arith, z.visits, i.0, ap (λ x. x.visits) c.part_cost.ensures, ap (λ x. x.visits) c.plus-cost.ensures), omega (arith, z.tested, i.1, ap (λ x. x.tested) c.part_cost.ensures, ap (λ x. x.tested) c.plus-cost.ensures))
