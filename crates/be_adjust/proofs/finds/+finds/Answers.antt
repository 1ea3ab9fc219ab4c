use Rattle.std.proofs.Common.{◌+◌, ◌++◌, ◌∷◌, [], option_map, drop, sym, ap, ◌∙◌, arith}
use Rattle.std.specs.Arc.{arc_value}
use Rattle.be_shape.specs.declared.nodes.Node.TheViews.{out-Node}
use Rattle.be_shape.specs.Plain.{part_as, parts_of, parts_as, rows_in_parts}
use Rattle.be_adjust.specs.Finds.{may_shift, first_of}
use Rattle.be_adjust.proofs.Fitting.{rows_apart}
use Rattle.be_adjust.proofs.Finding.{first_some, first_none, first_both}
use Rattle.be_adjust.proofs.NodeRows.{parts_rows, low_rows, high_rows, rows_out}
use Rattle.be_adjust.proofs.finds.+finds.Goals as goal

pub find_in_node-returns-in-Some : goal.find_in_node-returns-in-Some
find_in_node-returns-in-Some t c =
    let p = may_shift c.args.to c.args.id.0 in
    let n = c.args.n.now in
    let leaf = (out-Node n).leaf in
    let y = arc_value c.in-Some.row.now in
    sym (ap (first_of p) (rows_out n) ∙ first_some p (leaf ++ parts_rows n ++ low_rows n) (high_rows n) y (first_some p (leaf ++ parts_rows n) (low_rows n) y (first_some p leaf (parts_rows n) y (sym c.in-Some.ensures))))

pub find_in_node-returns-in-Some-find_in_parts : goal.find_in_node-returns-in-Some-find_in_parts
find_in_node-returns-in-Some-find_in_parts t c =
    let p = may_shift c.args.to c.args.id.0 in
    let n = c.args.n.now in
    let leaf = (out-Node n).leaf in
    let first = first_both p leaf (parts_rows n) (sym c.find_in_leaf.ensures) (ap (option_map (λ r. arc_value r.now)) c.in_default.is) (c.find_in_parts.ensures ∙ ap (λ ps. first_of p (rows_in_parts (parts_as ps))) c.as_slice.ensures.value) in
    let y = arc_value c.in-Some-find_in_parts.row.now in
    sym (ap (first_of p) (rows_out n) ∙ first_some p (leaf ++ parts_rows n ++ low_rows n) (high_rows n) y (first_some p (leaf ++ parts_rows n) (low_rows n) y (first ∙ ap (option_map (λ r. arc_value r.now)) c.in-Some-find_in_parts.is)))

pub find_in_node-returns-in-Some-find_in_half : goal.find_in_node-returns-in-Some-find_in_half
find_in_node-returns-in-Some-find_in_half t c =
    let p = may_shift c.args.to c.args.id.0 in
    let n = c.args.n.now in
    let leaf = (out-Node n).leaf in
    let first = first_both p leaf (parts_rows n) (sym c.find_in_leaf.ensures) (ap (option_map (λ r. arc_value r.now)) c.in_default.is) (c.find_in_parts.ensures ∙ ap (λ ps. first_of p (rows_in_parts (parts_as ps))) c.as_slice.ensures.value) in
    let second = first_both p (leaf ++ parts_rows n) (low_rows n) first (ap (option_map (λ r. arc_value r.now)) c.in_default-find_in_parts.is) c.find_in_half.ensures in
    let y = arc_value c.in-Some-find_in_half.row.now in
    sym (ap (first_of p) (rows_out n) ∙ first_some p (leaf ++ parts_rows n ++ low_rows n) (high_rows n) y (second ∙ ap (option_map (λ r. arc_value r.now)) c.in-Some-find_in_half.is))

pub find_in_node-returns : goal.find_in_node-returns
find_in_node-returns t c =
    let p = may_shift c.args.to c.args.id.0 in
    let n = c.args.n.now in
    let leaf = (out-Node n).leaf in
    let first = first_both p leaf (parts_rows n) (sym c.find_in_leaf.ensures) (ap (option_map (λ r. arc_value r.now)) c.in_default.is) (c.find_in_parts.ensures ∙ ap (λ ps. first_of p (rows_in_parts (parts_as ps))) c.as_slice.ensures.value) in
    let second = first_both p (leaf ++ parts_rows n) (low_rows n) first (ap (option_map (λ r. arc_value r.now)) c.in_default-find_in_parts.is) c.find_in_half.ensures in
    sym (ap (first_of p) (rows_out n) ∙ first_both p (leaf ++ parts_rows n ++ low_rows n) (high_rows n) second (ap (option_map (λ r. arc_value r.now)) c.in_default-find_in_half.is) c.find_in_half-2.ensures)

pub find_in_parts-returns-in-Some : goal.find_in_parts-returns-in-Some
find_in_parts-returns-in-Some t c =
    let p = may_shift c.args.to c.args.id.0 in
    let items = c.args.parts.now in
    let i = c.loop-part.part-index in
    let q = c.part-item.result in
    let y = arc_value c.in-Some.row.now in
    let rest = rows_in_parts (parts_as (drop (i + 1) items)) in
    sym (ap (first_of p) (rows_apart items i q (omega (arith, c.loop-part-test.true)) c.part-item.is) ∙ first_some p (rows_in_parts (parts_of (part_as q ∷ []))) rest y (sym c.in-Some.ensures)) ∙ c.loop-part.invariant

pub find_in_parts-loop-part-preserved : goal.find_in_parts-loop-part-preserved
find_in_parts-loop-part-preserved t c =
    let p = may_shift c.args.to c.args.id.0 in
    let items = c.args.parts.now in
    let i = c.loop-part.part-index in
    let q = c.part-item.result in
    let rest = rows_in_parts (parts_as (drop (i + 1) items)) in
    sym (ap (first_of p) (rows_apart items i q (omega (arith, c.loop-part-test.true)) c.part-item.is) ∙ first_none p (rows_in_parts (parts_of (part_as q ∷ []))) rest (sym c.find_in_part.ensures ∙ ap (option_map (λ r. arc_value r.now)) c.in_default.is)) ∙ c.loop-part.invariant
