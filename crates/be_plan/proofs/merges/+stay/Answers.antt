use Rattle.std.proofs.Common.{rules, ◌≡◌, true, sym, ap, ◌∙◌, subst}
use Rattle.std.specs.List.{list_all}
use Rattle.be_model.specs.Lies.{row_lies}
use Rattle.be_shape.specs.declared.nodes.Node.TheViews.{out-Node, the_lemmas}
use Rattle.be_shape.specs.Plain.{plain, parts_as, half_as, rows_in_parts, rows_in_half}
use Rattle.be_plan.specs.Merges.{all_stay}
use Rattle.be_plan.proofs.Rows.{rows_out, all_four, all_in_part}
use Rattle.be_plan.proofs.Stays.{stay_four, and_four}
use Rattle.be_plan.proofs.merges.+stay.Goals as goal

pub node_stays-half_stays-requires : goal.node_stays-half_stays-requires
node_stays-half_stays-requires t c =
    let x = out-Node c.args.n.now in
    let z = all_four (row_lies c.args.s.now) x.leaf (rows_in_parts (parts_as x.parts.items)) (rows_in_half (half_as x.low)) (rows_in_half (half_as x.high)) (subst (λ rows. list_all (row_lies c.args.s.now) rows ≡ true) (rows_out c.args.n.now) c.requires) in
    (search (rules, the_lemmas), z.2)

pub node_stays-half_stays-requires-2 : goal.node_stays-half_stays-requires-2
node_stays-half_stays-requires-2 t c =
    let x = out-Node c.args.n.now in
    let z = all_four (row_lies c.args.s.now) x.leaf (rows_in_parts (parts_as x.parts.items)) (rows_in_half (half_as x.low)) (rows_in_half (half_as x.high)) (subst (λ rows. list_all (row_lies c.args.s.now) rows ≡ true) (rows_out c.args.n.now) c.requires) in
    (search (rules, the_lemmas), z.3)

pub node_stays-returns-then-not-half_stays : goal.node_stays-returns-then-not-half_stays
node_stays-returns-then-not-half_stays t c =
    let a = c.args.above.now in
    let x = out-Node c.args.n.now in
    let stay = all_stay c.args.s.now a.hop a.range (plain a.node.now) in
    let whole = ap stay (rows_out c.args.n.now) ∙ stay_four c.args.s.now a.hop a.range (plain a.node.now) x.leaf (rows_in_parts (parts_as x.parts.items)) (rows_in_half (half_as x.low)) (rows_in_half (half_as x.high)) in
    let leaf = sym c.leaf_stays.ensures ∙ c.if-not-leaf_stays.false in
    let parts = sym (ap (λ ps. stay (rows_in_parts (parts_as ps))) c.as_slice.ensures.value) ∙ sym c.parts_stay.ensures ∙ c.if-not-parts_stay.false in
    let low = sym c.half_stays.ensures ∙ c.if-not-half_stays.true in
    sym (whole ∙ and_four _ _ _ _ _ _ _ _ leaf parts low (λ i. stay (rows_in_half (half_as x.high))))

pub node_stays-returns : goal.node_stays-returns
node_stays-returns t c =
    let a = c.args.above.now in
    let x = out-Node c.args.n.now in
    let stay = all_stay c.args.s.now a.hop a.range (plain a.node.now) in
    let whole = ap stay (rows_out c.args.n.now) ∙ stay_four c.args.s.now a.hop a.range (plain a.node.now) x.leaf (rows_in_parts (parts_as x.parts.items)) (rows_in_half (half_as x.low)) (rows_in_half (half_as x.high)) in
    let leaf = sym c.leaf_stays.ensures ∙ c.if-not-leaf_stays.false in
    let parts = sym (ap (λ ps. stay (rows_in_parts (parts_as ps))) c.as_slice.ensures.value) ∙ sym c.parts_stay.ensures ∙ c.if-not-parts_stay.false in
    let low = sym c.half_stays.ensures ∙ c.if-not-half_stays.false in
    sym (whole ∙ and_four _ _ _ _ _ _ _ _ leaf parts low (sym c.half_stays-2.ensures))

pub parts_stay-part_stays-requires : goal.parts_stay-part_stays-requires
parts_stay-part_stays-requires t c =
    (search (rules, the_lemmas), all_in_part (row_lies c.args.s.now) c.args.parts.now c.loop-part.part-index c.part-item.result c.loop-part-test.true c.part-item.is c.requires)
