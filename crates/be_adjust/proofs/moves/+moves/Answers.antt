use Rattle.std.proofs.Common.{◌≡◌, ◌<◌, ◌+◌, ◌++◌, rules, length, drop, get_or, ap, ◌∙◌, sym, arith, length-append}
use Rattle.std.proofs.lemmas.List.{append_assoc, append-nil}
use Rattle.be_shape.specs.declared.nodes.Node.TheViews.{out-Node, the_lemmas}
use Rattle.be_shape.specs.Plain.{plain, parts_as, rows_below, rows_in_parts}
use Rattle.be_shape.proofs.RowCounts.{node_rows}
use Rattle.be_adjust.proofs.Fitting.{five, none_left}
use Rattle.be_adjust.proofs.NodeRows.{parts_rows, low_rows, high_rows, rows_out, rows_lent}
use Rattle.be_adjust.proofs.moves.+moves.Goals as goal

pub move_node-move_half-requires : goal.move_node-move_half-requires
move_node-move_half-requires t c =
    let n = c.args.n.now in
    (search (rules, the_lemmas), omega (arith, c.requires, node_rows n, ap length c.move_leaf.ensures, ap length c.move_parts.ensures, length-append c.args.leaf.now (out-Node n).leaf, length-append c.move_leaf.new.leaf (parts_rows n)))

pub move_node-move_half-requires-2 : goal.move_node-move_half-requires-2
move_node-move_half-requires-2 t c =
    let n = c.args.n.now in
    (search (rules, the_lemmas), omega (arith, c.requires, node_rows n, ap length c.move_leaf.ensures, ap length c.move_parts.ensures, ap length c.move_half.ensures, length-append c.args.leaf.now (out-Node n).leaf, length-append c.move_leaf.new.leaf (parts_rows n), length-append c.move_parts.new.leaf (low_rows n)))

pub move_node-returns : goal.move_node-returns
move_node-returns t c =
    let n = c.args.n.now in
    let l = c.args.leaf.now in
    c.move_half-2.ensures ∙ ap (λ q. q ++ high_rows n) (c.move_half.ensures ∙ ap (λ q. q ++ low_rows n) (c.move_parts.ensures ∙ ap (λ q. q ++ parts_rows n) c.move_leaf.ensures))
    ∙ five l (out-Node n).leaf (parts_rows n) (low_rows n) (high_rows n) ∙ ap (λ q. l ++ q) (sym (rows_out n))

pub move_parts-move_node-requires : goal.move_parts-move_node-requires
move_parts-move_node-requires t c =
    let items = c.args.parts.now.items in
    let i = c.loop-place.place in
    let q = c.index_mut.result.now in
    let l = c.loop-place.leaf in
    let within : i < length items = omega (arith, c.loop-place-test.true, c.len-place-end.ensures, c.args.parts.now.ok.0) in
    let there : q ≡ get_or items i q = c.index_mut.ensures.value ∙ c.loop-place.invariant.1.1 i q (omega arith) in
    let rows = rows_below (plain c.deref_mut.result.now) in
    let rest = rows_in_parts (parts_as (drop (i + 1) items)) in
    let next = rows_lent items i q c.deref_mut.result.now within there c.deref_mut.ensures.value in
    (search (rules, the_lemmas), omega (arith, c.requires, ap length c.loop-place.invariant.0, ap length next, length-append l (rows_in_parts (parts_as (drop i items))), length-append rows rest, length-append c.args.leaf.now (rows_in_parts (parts_as items))))

pub move_parts-loop-place-preserved : goal.move_parts-loop-place-preserved
move_parts-loop-place-preserved t c =
    let items = c.args.parts.now.items in
    let i = c.loop-place.place in
    let q = c.index_mut.result.now in
    let l = c.loop-place.leaf in
    let within : i < length items = omega (arith, c.loop-place-test.true, c.len-place-end.ensures, c.args.parts.now.ok.0) in
    let there : q ≡ get_or items i q = c.index_mut.ensures.value ∙ c.loop-place.invariant.1.1 i q (omega arith) in
    let rows = rows_below (plain c.deref_mut.result.now) in
    let rest = rows_in_parts (parts_as (drop (i + 1) items)) in
    let next = rows_lent items i q c.deref_mut.result.now within there c.deref_mut.ensures.value in
    (ap (λ x. x ++ rest) c.move_node.ensures ∙ append_assoc l rows rest ∙ ap (λ x. l ++ x) (sym next) ∙ c.loop-place.invariant.0, search (rules, the_lemmas))

pub move_parts-returns : goal.move_parts-returns
move_parts-returns t c =
    let items = c.args.parts.now.items in
    sym (append-nil c.loop-place.leaf) ∙ ap (λ x. c.loop-place.leaf ++ x) (sym (none_left items c.loop-place.place (omega (arith, c.loop-place-test.false, c.len-place-end.ensures, c.args.parts.now.ok.0)))) ∙ c.loop-place.invariant.0
