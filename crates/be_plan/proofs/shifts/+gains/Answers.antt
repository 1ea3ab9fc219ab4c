use Rattle.std.proofs.Common.{rules, ◌≡◌, true, ◌∷◌, [], ◌+◌, drop, None, sym, ap, ◌∙◌, subst}
use Rattle.std.specs.List.{list_all}
use Rattle.be_model.specs.declared.paths.Hop.TheVariants.{Low, High}
use Rattle.be_shape.specs.declared.nodes.Node.TheViews.{out-Node, the_lemmas}
use Rattle.be_shape.specs.Plain.{plain, parts_as, half_as, part_as, parts_of, parts_under, leaf_of, rows_below, rows_in_parts, rows_in_half}
use Rattle.be_shape.specs.Shape.{known, attrs_of, may_stand}
use Rattle.be_shape.specs.Paths.{child}
use Rattle.be_shape.specs.Ranges.{is_bounded, is_rising}
use Rattle.be_shape.proofs.Among.{placed_at}
use Rattle.be_shape.proofs.Plains.{plain_out}
use Rattle.be_plan.specs.Shifts.{lower_id, least_gain, IsBelow, ChildBelow, PartsBelow}
use Rattle.be_plan.proofs.Rows.{rows_out, rows_left, all_four}
use Rattle.be_plan.proofs.Ids.{least_on, least_four, lower_none}
use Rattle.be_plan.proofs.Narrow.{narrow_gains}
use Rattle.be_plan.proofs.Apart.{child_below, parts_below, leaf_gains, each_part}
use Rattle.be_plan.proofs.Places.{open_below}
use Rattle.be_plan.proofs.shifts.+gains.Goals as goal

pub least_below-returns-then-is_narrow : goal.least_below-returns-then-is_narrow
least_below-returns-then-is_narrow t c =
    let s = c.args.from.now.s.now in
    let from = c.args.from.now in
    let n = plain c.args.n.now in
    let b = c.requires in
    let none = narrow_gains from.small s (attrs_of (parts_as from.parts.now)) from.attr c.args.range (rows_below n) from.is c.is_narrow.ensures.form (sym c.is_narrow.ensures.narrow ∙ c.if-is_narrow.true) b.right.may (placed_at s (known c.args.range b.used) n b.right).inside in
    sym (ap (lower_id c.args.best) none ∙ lower_none c.args.best)

pub least_below-least_in_leaf-best-requires-clause-may : goal.least_below-least_in_leaf-best-requires-clause-may
least_below-least_in_leaf-best-requires-clause-may t c =
    let x = out-Node c.args.n.now in
    let may = may_stand c.args.from.now.s.now in
    (all_four may x.leaf (rows_in_parts (parts_as x.parts.items)) (rows_in_half (half_as x.low)) (rows_in_half (half_as x.high)) (subst (λ rows. list_all may rows ≡ true) (rows_out c.args.n.now) c.requires.right.may)).0

pub least_below-least_in_leaf-best-requires-clause-stuck : goal.least_below-least_in_leaf-best-requires-clause-stuck
least_below-least_in_leaf-best-requires-clause-stuck t c =
    leaf_gains c.args.from.now.s.now (attrs_of (parts_as c.args.from.now.parts.now)) c.args.from.now.attr c.args.met c.args.range (plain c.args.n.now) (out-Node c.args.n.now).leaf c.requires (ap leaf_of (plain_out c.args.n.now))

pub least_below-least_in_parts-best-requires : goal.least_below-least_in_parts-best-requires
least_below-least_in_parts-best-requires t c =
    let s = c.args.from.now.s.now in
    let from = c.args.from.now in
    let attrs = attrs_of (parts_as from.parts.now) in
    let x = out-Node c.args.n.now in
    let is = sym c.as_slice.ensures.value in
    let below = subst (PartsBelow s attrs from.attr c.args.met) (ap parts_under (plain_out c.args.n.now)) (parts_below s attrs from.attr c.args.met c.args.range (plain c.args.n.now) c.is_narrow.ensures.form c.requires) in
    (search (rules, the_lemmas), subst (λ ps. PartsBelow s attrs from.attr c.args.met (parts_as ps)) is below)

pub least_below-least_in_half-best-requires : goal.least_below-least_in_half-best-requires
least_below-least_in_half-best-requires t c =
    let s = c.args.from.now.s.now in
    let from = c.args.from.now in
    let attrs = attrs_of (parts_as from.parts.now) in
    let x = out-Node c.args.n.now in
    let n = plain c.args.n.now in
    let is = c.lower_range.ensures.range in (
      search (rules, the_lemmas),
      λ m e. subst (λ r. IsBelow s attrs from.attr c.args.met r m) (sym is) (child_below s attrs from.attr c.args.met c.args.range n m Low c.requires (ap (child Low) (plain_out c.args.n.now) ∙ e) (ap is_bounded (sym is) ∙ c.lower_range.ensures.bounded) (ap is_rising (sym is) ∙ c.lower_range.ensures.rising)),
    )

pub least_below-least_in_half-requires : goal.least_below-least_in_half-requires
least_below-least_in_half-requires t c =
    let s = c.args.from.now.s.now in
    let from = c.args.from.now in
    let attrs = attrs_of (parts_as from.parts.now) in
    let x = out-Node c.args.n.now in
    let n = plain c.args.n.now in
    let is = c.upper_range.ensures.range in
    let b = c.requires in (
      search (rules, the_lemmas),
      λ m e. let there = ap (child High) (plain_out c.args.n.now) ∙ e in
          let splits = open_below s (known c.args.range b.used) n m High b.right there in
          subst (λ r. IsBelow s attrs from.attr c.args.met r m) (sym is) (child_below s attrs from.attr c.args.met c.args.range n m High b there (ap is_bounded (sym is) ∙ c.upper_range.ensures.bounded) (ap is_rising (sym is) ∙ c.upper_range.ensures.rising splits)),
    )

pub least_in_parts-least_in_part-best-requires : goal.least_in_parts-least_in_part-best-requires
least_in_parts-least_in_part-best-requires t c =
    let s = c.args.from.now.s.now in
    let from = c.args.from.now in
    let ps = c.args.parts.now in
    let i = c.loop-part.part-index in (
      search (rules, the_lemmas),
      each_part (ChildBelow s (attrs_of (parts_as from.parts.now)) from.attr c.args.met None) ps i c.part-item.result c.loop-part-test.true c.part-item.is c.requires,
    )

pub least_below-returns : goal.least_below-returns
least_below-returns t c =
    let s = c.args.from.now.s.now in
    let from = c.args.from.now in
    let attrs = attrs_of (parts_as from.parts.now) in
    let x = out-Node c.args.n.now in
    let parts = c.least_in_parts-best.ensures ∙ ap (λ ps. lower_id c.least_in_leaf-best.result (least_gain s attrs from.attr (rows_in_parts (parts_as ps)))) c.as_slice.ensures.value in
    least_four s attrs from.attr c.args.best c.least_in_leaf-best.result c.least_in_parts-best.result c.least_in_half-best.result c.least_in_half.result x.leaf (rows_in_parts (parts_as x.parts.items)) (rows_in_half (half_as x.low)) (rows_in_half (half_as x.high)) c.least_in_leaf-best.ensures parts c.least_in_half-best.ensures c.least_in_half.ensures
    ∙ ap (λ rows. lower_id c.args.best (least_gain s attrs from.attr rows)) (sym (rows_out c.args.n.now))

pub least_in_parts-loop-part-preserved : goal.least_in_parts-loop-part-preserved
least_in_parts-loop-part-preserved t c =
    let s = c.args.from.now.s.now in
    let from = c.args.from.now in
    let attrs = attrs_of (parts_as from.parts.now) in
    let ps = c.args.parts.now in
    let i = c.loop-part.part-index in
    let first = rows_in_parts (parts_of (part_as c.part-item.result ∷ [])) in
    let rest = rows_in_parts (parts_as (drop (i + 1) ps)) in
    ap (λ q. lower_id q (least_gain s attrs from.attr rest)) c.least_in_part-best.ensures ∙ least_on s attrs from.attr c.loop-part.best first rest
    ∙ ap (λ rows. lower_id c.loop-part.best (least_gain s attrs from.attr rows)) (sym (rows_left ps i c.part-item.result c.loop-part-test.true c.part-item.is)) ∙ c.loop-part.invariant
