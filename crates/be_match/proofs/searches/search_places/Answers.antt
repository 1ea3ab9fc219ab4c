use Rattle.std.proofs.Common.{◌≡◌, ◌+◌, ◌<◌, ◌≤◌, ◌∷◌, [], false, Some, length, drop, take, slice_get, get_or, sym, ap, subst, ◌∙◌, arith}
use Rattle.std.specs.Arc.{arc_value}
use Rattle.be_shape.specs.declared.leaves.Choice.{Choice}
use Rattle.be_index.specs.Puts.{Adds, hits_of}
use Rattle.be_index.proofs.Adding.{on_refusal, underway_next, underway_refused}
use Rattle.be_match.proofs.Blocks.{in_range, next_at, sure_at, none_left, finished, underway, one_then, none_then, hits_covered}
use Rattle.be_match.proofs.searches.search_places.Goals as goal

pub overflow_add-from : goal.overflow_add-from
overflow_add-from g c =
    let of = g.C.Hits.item_of in
    let e = c.args.e.now in
    let rows = c.args.leaf.now in
    let from = c.args.from in
    let places = c.choose-count.new.chosen in
    let none : Choice = record { at = 0; sure = false } in
    let count = c.choose-count.result in
    let i = c.loop-i.i in
    let room : count ≤ length places = omega (arith, c.choose-count.ensures.few, c.choose-count.array_long) in
    let few : i < count = omega (arith, c.loop-i-test.true, c.loop-i.auto.i-end) in
    let covers = c.choose-count.ensures.places in
    let within : from + (get_or places i none).at < length rows = in_range rows from count i none places covers.found room few covers.at in
    omega (arith, within, c.from.ensures, c.len.ensures)

pub kept-kept-requires : goal.kept-kept-requires
kept-kept-requires g c =
    let of = g.C.Hits.item_of in
    let e = c.args.e.now in
    let rows = c.args.leaf.now in
    let from = c.args.from in
    let places = c.choose-count.new.chosen in
    let none : Choice = record { at = 0; sure = false } in
    let count = c.choose-count.result in
    let i = c.loop-i.i in
    let room : count ≤ length places = omega (arith, c.choose-count.ensures.few, c.choose-count.array_long) in
    let few : i < count = omega (arith, c.loop-i-test.true, c.loop-i.auto.i-end) in
    let covers = c.choose-count.ensures.places in
    let within : from + (get_or places i none).at < length rows = in_range rows from count i none places covers.found room few covers.at in
    omega (arith, within, c.from.ensures)

pub test-requires-clause-sure : goal.test-requires-clause-sure
test-requires-clause-sure g c = λ sure.
    let e = c.args.e.now in
    let rows = c.args.leaf.now in
    let from = c.args.from in
    let places = c.choose-count.new.chosen in
    let none : Choice = record { at = 0; sure = false } in
    let count = c.choose-count.result in
    let i = c.loop-i.i in
    let room : count ≤ length places = omega (arith, c.choose-count.ensures.few, c.choose-count.array_long) in
    let few : i < count = omega (arith, c.loop-i-test.true, c.loop-i.auto.i-end) in
    let x = arc_value c.row.result.now in
    let stands : slice_get rows (from + (get_or places i none).at) ≡ Some x = ap (λ p. slice_get rows (from + p)) (sym c.from.ensures) ∙ c.kept-kept.ensures.at ∙ c.row.ensures in
    sure_at e rows from count i none places x room few c.choose-count.ensures.places stands sure

pub loop-i-init : goal.loop-i-init
loop-i-init g c = λ cands at. underway (g.C.Hits.held c.args.found.now) (hits_of g.C.Hits.item_of c.args.e.now cands)

pub loop-i-preserved : goal.loop-i-preserved
loop-i-preserved g c = λ cands at.
    let of = g.C.Hits.item_of in
    let e = c.args.e.now in
    let rows = c.args.leaf.now in
    let from = c.args.from in
    let places = c.choose-count.new.chosen in
    let none : Choice = record { at = 0; sure = false } in
    let count = c.choose-count.result in
    let i = c.loop-i.i in
    let room : count ≤ length places = omega (arith, c.choose-count.ensures.few, c.choose-count.array_long) in
    let few : i < count = omega (arith, c.loop-i-test.true, c.loop-i.auto.i-end) in
    let x = arc_value c.row.result.now in
    let stands : slice_get rows (from + (get_or places i none).at) ≡ Some x = ap (λ p. slice_get rows (from + p)) (sym c.from.ensures) ∙ c.kept-kept.ensures.at ∙ c.row.ensures in
    let next = one_then of e cands i x (next_at rows from count i none places cands x room few at stands) in
    underway_next _ _ (g.C.Hits.held c.test.new.found) (hits_of of e (drop i cands)) (hits_of of e (x ∷ [])) (hits_of of e (drop (i + 1) cands)) (hits_of of e cands) next (c.loop-i.invariant cands at) c.in_ok-test.ensures.put c.in_ok-test.ensures.grown

pub returns-in_err-test-clause-refused : goal.returns-in_err-test-clause-refused
returns-in_err-test-clause-refused g c =
    let of = g.C.Hits.item_of in
    let e = c.args.e.now in
    let rows = c.args.leaf.now in
    let from = c.args.from in
    let places = c.choose-count.new.chosen in
    let none : Choice = record { at = 0; sure = false } in
    let count = c.choose-count.result in
    let i = c.loop-i.i in
    let room : count ≤ length places = omega (arith, c.choose-count.ensures.few, c.choose-count.array_long) in
    let few : i < count = omega (arith, c.loop-i-test.true, c.loop-i.auto.i-end) in
    let covers = c.choose-count.ensures.places in
    let x = arc_value c.row.result.now in
    let stands : slice_get rows (from + (get_or places i none).at) ≡ Some x = ap (λ p. slice_get rows (from + p)) (sym c.from.ensures) ∙ c.kept-kept.ensures.at ∙ c.row.ensures in
    let cands = covers.found in
    let next = one_then of e cands i x (next_at rows from count i none places cands x room few covers.at stands) in
    let refused = underway_refused _ _ (hits_of of e (drop i cands)) (hits_of of e (x ∷ [])) (hits_of of e (drop (i + 1) cands)) (hits_of of e cands) next (c.loop-i.invariant cands covers.at) c.in_err-test.ensures.refused in
    on_refusal c.from_residual.result ((g.C.Hits.held c.args.found.now).sure < length (hits_of of e (take 32 (drop from rows))))
    (subst (λ hits. (g.C.Hits.held c.args.found.now).sure < length hits) (hits_covered of e rows from (take count places) covers) refused)

pub returns-clause-put : goal.returns-clause-put
returns-clause-put g c =
    let of = g.C.Hits.item_of in
    let e = c.args.e.now in
    let rows = c.args.leaf.now in
    let from = c.args.from in
    let places = c.choose-count.new.chosen in
    let none : Choice = record { at = 0; sure = false } in
    let count = c.choose-count.result in
    let i = c.loop-i.i in
    let room : count ≤ length places = omega (arith, c.choose-count.ensures.few, c.choose-count.array_long) in
    let end : count ≤ i = omega (arith, c.loop-i-test.false, c.loop-i.auto.i-end) in
    let covers = c.choose-count.ensures.places in
    let cands = covers.found in
    let all = finished _ _ (hits_of of e (drop i cands)) (hits_of of e cands) (none_then of e cands i (none_left rows from count i places cands room end covers.at)) (c.loop-i.invariant cands covers.at) in
    subst (λ hits. Adds (g.C.Hits.held c.args.found.now) (g.C.Hits.held c.loop-i.found) hits) (hits_covered of e rows from (take count places) covers) all
