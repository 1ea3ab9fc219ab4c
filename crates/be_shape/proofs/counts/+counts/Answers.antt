use Rattle.std.proofs.Common.{rules, ◌<◌, ◌+◌, length, ap, arith}
use Rattle.be_shape.specs.declared.nodes.Node.TheViews.{the_lemmas}
use Rattle.be_shape.specs.Plain.{parts_as, rows_in_parts}
use Rattle.be_shape.proofs.RowCounts.{node_rows, rows_from}
use Rattle.be_shape.proofs.counts.+counts.Goals as goal

pub rows_of_node-rows_of_parts-parts-requires : goal.rows_of_node-rows_of_parts-parts-requires
rows_of_node-rows_of_parts-parts-requires t c =
    (search (rules, the_lemmas), omega (arith, node_rows c.args.n.now, c.requires, ap (λ ps. length (rows_in_parts (parts_as ps))) c.as_slice.ensures.value))

pub rows_of_node-rows_of_half-low-requires : goal.rows_of_node-rows_of_half-low-requires
rows_of_node-rows_of_half-low-requires t c =
    (search (rules, the_lemmas), omega (arith, node_rows c.args.n.now, c.requires))

pub rows_of_node-rows_of_half-high-requires : goal.rows_of_node-rows_of_half-high-requires
rows_of_node-rows_of_half-high-requires t c =
    (search (rules, the_lemmas), omega (arith, node_rows c.args.n.now, c.requires))

pub rows_of_node-returns : goal.rows_of_node-returns
rows_of_node-returns t c =
    omega (arith, node_rows c.args.n.now, c.requires, c.len-own.ensures, c.rows_of_parts-parts.ensures, c.rows_of_half-low.ensures, c.rows_of_half-high.ensures, ap (λ ps. length (rows_in_parts (parts_as ps))) c.as_slice.ensures.value)

pub rows_of_parts-rows_of_part-count-requires : goal.rows_of_parts-rows_of_part-count-requires
rows_of_parts-rows_of_part-count-requires t c =
    let z = rows_from c.args.parts.now c.loop-part.part-index c.part-item.result (omega (arith, c.loop-part-test.true)) c.part-item.is in
    (search (rules, the_lemmas), omega (arith, z, c.requires, c.loop-part.invariant))

pub rows_of_parts-loop-part-preserved : goal.rows_of_parts-loop-part-preserved
rows_of_parts-loop-part-preserved t c =
    let z = rows_from c.args.parts.now c.loop-part.part-index c.part-item.result (omega (arith, c.loop-part-test.true)) c.part-item.is in
    omega (arith, z, c.loop-part.invariant, c.rows_of_part-count.ensures)

pub rows_of_node-overflow_add-result : goal.rows_of_node-overflow_add-result
rows_of_node-overflow_add-result t c =
    let fits : c.len-own.result + c.rows_of_parts-parts.result < 18446744073709551616 = omega (arith, node_rows c.args.n.now, c.requires, c.len-own.ensures, c.rows_of_parts-parts.ensures, c.rows_of_half-low.ensures, c.rows_of_half-high.ensures, ap (λ ps. length (rows_in_parts (parts_as ps))) c.as_slice.ensures.value) in search rules

pub rows_of_node-overflow_add-result-2 : goal.rows_of_node-overflow_add-result-2
rows_of_node-overflow_add-result-2 t c =
    let fits : c.len-own.result + c.rows_of_parts-parts.result + c.rows_of_half-low.result < 18446744073709551616 = omega (arith, node_rows c.args.n.now, c.requires, c.len-own.ensures, c.rows_of_parts-parts.ensures, c.rows_of_half-low.ensures, c.rows_of_half-high.ensures, ap (λ ps. length (rows_in_parts (parts_as ps))) c.as_slice.ensures.value) in search rules

pub rows_of_node-overflow_add-result-3 : goal.rows_of_node-overflow_add-result-3
rows_of_node-overflow_add-result-3 t c =
    let fits : c.len-own.result + c.rows_of_parts-parts.result + c.rows_of_half-low.result + c.rows_of_half-high.result < 18446744073709551616 = omega (arith, node_rows c.args.n.now, c.requires, c.len-own.ensures, c.rows_of_parts-parts.ensures, c.rows_of_half-low.ensures, c.rows_of_half-high.ensures, ap (λ ps. length (rows_in_parts (parts_as ps))) c.as_slice.ensures.value) in search rules
