use Rattle.std.proofs.Common.{◌≡◌, ◌<◌, length, map, None, sym, ap, ◌∙◌, subst}
use Rattle.std.specs.Arc.{arc_value}
use Rattle.be_model.specs.declared.changes.Row.{Row}
use Rattle.be_model.specs.Schemas.{IsSchema}
use Rattle.be_model.specs.Matching.{satisfies, satisfied}
use Rattle.be_model.specs.ByIds.{rows_of}
use Rattle.be_model.proofs.RowsByIds.{filter_permuted}
use Rattle.std.proofs.lemmas.List.Sorted.{IsPermutation-sym}
use Rattle.be_model.specs.Costs.{cost}
use Rattle.be_shape.specs.Plain.{plain, leaf_of, rows_below, contents}
use Rattle.be_shape.proofs.Plains.{plain_out}
use Rattle.be_shape.specs.Search.{visited, all_of}
use Rattle.be_index.specs.Puts.{Adds, hits_of}
use Rattle.be_match.specs.Leaves.{AreCountable}
use Rattle.be_match.proofs.Counted.{others_countable, costs_alone}
use Rattle.be_match.proofs.Within.{searched, countable, within_bound, all_found, no_room_in_tree}
use Rattle.be_match.proofs.finds.find_in.Goals as goal

pub search_node-requires-clause-countable : goal.search_node-requires-clause-countable
search_node-requires-clause-countable g c =
    let t = c.args.t.now in
    let s = arc_value t.schema in
    let e = c.args.e.now in
    let n = plain t.root in
    let w = searched t e (subst IsSchema c.deref.ensures c.count.ensures.form) c.items.ensures.form c.requires in
    let leaf : c.leaf_cost-cost.result ≡ cost 1 (length (leaf_of n)) = c.leaf_cost-cost.ensures ∙ ap (λ i. cost 1 (length (leaf_of i))) (sym (plain_out t.root)) in
    others_countable c.leaf_cost-cost.result (leaf_of n) (visited c.deref-s.result.now c.of-sight.result None n) leaf (subst (λ x. AreCountable (visited c.deref-s.result.now x None n)) (sym c.of-sight.ensures) (subst (λ a. AreCountable (visited a e None n)) (sym c.deref-s.ensures) (countable s e n w)))

pub returns-in-Ok-clause-found : goal.returns-in-Ok-clause-found
returns-in-Ok-clause-found g c =
    let t = c.args.t.now in
    let s = arc_value t.schema in
    let e = c.args.e.now in
    let n = plain t.root in
    let was = g.C.Hits.held c.args.found.now in
    let is = g.C.Hits.held c.search_node.new.found in
    let of = g.C.Hits.item_of in
    let w = searched t e (subst IsSchema c.deref.ensures c.count.ensures.form) c.items.ensures.form c.requires in
    let all = subst (λ rows. Adds was is (map of rows)) (all_found s e n w) (subst (λ a. Adds was is (hits_of of e (all_of (visited a e None n)))) c.deref-s.ensures (subst (λ x. Adds was is (hits_of of x (all_of (visited c.deref-s.result.now x None n)))) c.of-sight.ensures c.in-Ok.ensures.put)) in
    record {
      found = satisfied e (rows_below n);
      put = all.put;
      exact = IsPermutation-sym (satisfied e (rows_below n)) (satisfied e (rows_of (contents n))) (filter_permuted (λ (row : Row). satisfies e row.conj) (rows_below n));
    }

pub returns-in-Err-clause-some : goal.returns-in-Err-clause-some
returns-in-Err-clause-some g c =
    let t = c.args.t.now in
    let s = arc_value t.schema in
    let e = c.args.e.now in
    let n = plain t.root in
    let w = searched t e (subst IsSchema c.deref.ensures c.count.ensures.form) c.items.ensures.form c.requires in
    let of = g.C.Hits.item_of in
    let sure = (g.C.Hits.held c.args.found.now).sure in
    no_room_in_tree of sure s e n w (subst (λ a. sure < length (hits_of of e (all_of (visited a e None n)))) c.deref-s.ensures (subst (λ x. sure < length (hits_of of x (all_of (visited c.deref-s.result.now x None n)))) c.of-sight.ensures c.in-Err.ensures.refused))

pub returns-in-Ok-clause-bound : goal.returns-in-Ok-clause-bound
returns-in-Ok-clause-bound g c =
    let t = c.args.t.now in
    let s = arc_value t.schema in
    let e = c.args.e.now in
    let n = plain t.root in
    let w = searched t e (subst IsSchema c.deref.ensures c.count.ensures.form) c.items.ensures.form c.requires in
    let leaf : c.leaf_cost-cost.result ≡ cost 1 (length (leaf_of n)) = c.leaf_cost-cost.ensures ∙ ap (λ i. cost 1 (length (leaf_of i))) (sym (plain_out t.root)) in
    let alone = costs_alone c.leaf_cost-cost.result c.search_node.new.cost (leaf_of n) (visited c.deref-s.result.now c.of-sight.result None n) leaf c.in-Ok.ensures.cost in
    within_bound s e n c.search_node.new.cost w (alone.visits ∙ ap (λ x. length (visited c.deref-s.result.now x None n)) c.of-sight.ensures ∙ ap (λ a. length (visited a e None n)) c.deref-s.ensures)
    (alone.tested ∙ ap (λ x. length (all_of (visited c.deref-s.result.now x None n))) c.of-sight.ensures ∙ ap (λ a. length (all_of (visited a e None n))) c.deref-s.ensures)
