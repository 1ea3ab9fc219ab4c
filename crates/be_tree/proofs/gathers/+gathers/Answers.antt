use Rattle.std.proofs.Common.{◌++◌, ◌<◌, length, sym, ap, ◌∙◌, subst}
use Rattle.be_shape.specs.declared.nodes.Node.TheViews.{out-Node}
use Rattle.be_shape.specs.Plain.{plain, parts_as, half_as, rows_below, rows_in_parts, rows_in_half}
use Rattle.be_shape.proofs.Plains.{plain_out}
use Rattle.be_index.proofs.Adding.{on_refusal}
use Rattle.be_tree.specs.Gathered.{wanted}
use Rattle.be_tree.proofs.Gathering.{put_levels, some_in_node}
use Rattle.be_tree.proofs.gathers.+gathers.Goals as goal

pub gather_node-returns-clause-put : goal.gather_node-returns-clause-put
gather_node-returns-clause-put t c =
    let k = c.args.session in
    let n = c.args.n.now in
    let x = out-Node n in
    let old = c.args.found.now.rows in
    put_levels k old c.gather_leaf.new.found.rows c.gather_parts.new.found.rows c.gather_half.new.found.rows c.gather_half-2.new.found.rows x.leaf (rows_in_parts (parts_as x.parts.items)) (rows_in_half (half_as x.low)) (rows_in_half (half_as x.high))
    c.in_ok-gather_leaf.ensures.put (c.in_ok-gather_parts.ensures.put ∙ ap (λ ps. c.gather_leaf.new.found.rows ++ wanted k (rows_in_parts (parts_as ps))) c.as_slice.ensures.value) c.in_ok-gather_half.ensures.put c.in_ok-gather_half-2.ensures.put
    ∙ ap (λ m. old ++ wanted k (rows_below m)) (sym (plain_out n))

pub gather_node-returns-in_err-gather_parts-clause-refused : goal.gather_node-returns-in_err-gather_parts-clause-refused
gather_node-returns-in_err-gather_parts-clause-refused t c =
    let k = c.args.session in
    let n = c.args.n.now in
    let x = out-Node n in
    let z = some_in_node k x.leaf (rows_in_parts (parts_as x.parts.items)) (rows_in_half (half_as x.low)) (rows_in_half (half_as x.high)) in
    on_refusal c.from_residual-in_err-gather_parts.result (0 < length (wanted k (rows_below (plain n))))
    (subst (λ m. 0 < length (wanted k (rows_below m))) (sym (plain_out n)) (z.in_parts (subst (λ ps. 0 < length (wanted k (rows_in_parts (parts_as ps)))) c.as_slice.ensures.value c.in_err-gather_parts.ensures.refused)))

pub gather_node-returns-in_err-gather_half-clause-refused : goal.gather_node-returns-in_err-gather_half-clause-refused
gather_node-returns-in_err-gather_half-clause-refused t c =
    let k = c.args.session in
    let n = c.args.n.now in
    let x = out-Node n in
    let z = some_in_node k x.leaf (rows_in_parts (parts_as x.parts.items)) (rows_in_half (half_as x.low)) (rows_in_half (half_as x.high)) in
    on_refusal c.from_residual-in_err-gather_half.result (0 < length (wanted k (rows_below (plain n))))
    (subst (λ m. 0 < length (wanted k (rows_below m))) (sym (plain_out n)) (z.in_low c.in_err-gather_half.ensures.refused))

pub gather_node-returns-in_err-gather_half-2-clause-refused : goal.gather_node-returns-in_err-gather_half-2-clause-refused
gather_node-returns-in_err-gather_half-2-clause-refused t c =
    let k = c.args.session in
    let n = c.args.n.now in
    let x = out-Node n in
    let z = some_in_node k x.leaf (rows_in_parts (parts_as x.parts.items)) (rows_in_half (half_as x.low)) (rows_in_half (half_as x.high)) in
    on_refusal c.from_residual-in_err-gather_half-2.result (0 < length (wanted k (rows_below (plain n))))
    (subst (λ m. 0 < length (wanted k (rows_below m))) (sym (plain_out n)) (z.in_high c.in_err-gather_half-2.ensures.refused))
