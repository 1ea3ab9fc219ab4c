use Rattle.std.proofs.Common.{◌+◌, ◌<◌, ◌≤◌, [], ◌∷◌, length, map, drop, ap, arith}
use Rattle.std.proofs.lemmas.Option.{slice_get_within}
use Rattle.be_model.specs.Matching.{satisfied}
use Rattle.be_index.specs.Puts.{hits_of}
use Rattle.be_index.proofs.Adding.{on_refusal, underway_next, underway_refused}
use Rattle.be_match.proofs.Blocks.{finished, underway}
use Rattle.be_match.proofs.MetRows.{block, next_row, none_after}
use Rattle.be_match.proofs.searches.search_columns.Goals as goal

pub loop-i-init : goal.loop-i-init
loop-i-init g c = underway (g.C.Hits.held c.args.found.now) (hits_of g.C.Hits.item_of c.args.e.now (block c.args.leaf.now c.args.from))

pub put_met-requires-clause-within : goal.put_met-requires-clause-within
put_met-requires-clause-within g c =
    let rows = block c.args.leaf.now c.args.from in
    let met = c.met-many.new.met in
    let room : c.met-many.result ≤ length met = omega (arith, c.met-many.ensures.few, c.met-many.array_long) in
    let next = next_row rows c.met-many.result c.loop-i.i met (satisfied c.args.e.now rows) room c.loop-i-test.true (c.met-many.ensures.places rows c.requires.rows) in
    slice_get_within rows _ next.row next.there

pub returns-in_err-put_met-clause-refused : goal.returns-in_err-put_met-clause-refused
returns-in_err-put_met-clause-refused g c =
    let of = g.C.Hits.item_of in
    let i = c.loop-i.i in
    let rows = block c.args.leaf.now c.args.from in
    let found = satisfied c.args.e.now rows in
    let met = c.met-many.new.met in
    let room : c.met-many.result ≤ length met = omega (arith, c.met-many.ensures.few, c.met-many.array_long) in
    let next = next_row rows c.met-many.result i met found room c.loop-i-test.true (c.met-many.ensures.places rows c.requires.rows) in
    on_refusal c.from_residual.result ((g.C.Hits.held c.args.found.now).sure < length (map of found))
    (underway_refused _ _ (map of (drop i found)) (of next.row ∷ []) (map of (drop (i + 1) found)) (map of found) (ap (map of) next.next) c.loop-i.invariant c.in_err-put_met.ensures.refused)

pub loop-i-preserved : goal.loop-i-preserved
loop-i-preserved g c =
    let of = g.C.Hits.item_of in
    let i = c.loop-i.i in
    let rows = block c.args.leaf.now c.args.from in
    let found = satisfied c.args.e.now rows in
    let met = c.met-many.new.met in
    let room : c.met-many.result ≤ length met = omega (arith, c.met-many.ensures.few, c.met-many.array_long) in
    let next = next_row rows c.met-many.result i met found room c.loop-i-test.true (c.met-many.ensures.places rows c.requires.rows) in
    underway_next _ _ (g.C.Hits.held c.put_met.new.found) (map of (drop i found)) (of next.row ∷ []) (map of (drop (i + 1) found)) (map of found) (ap (map of) next.next) c.loop-i.invariant
    (c.in_ok-put_met.ensures.put next.row next.there) c.in_ok-put_met.ensures.grown

pub returns-clause-put : goal.returns-clause-put
returns-clause-put g c =
    let of = g.C.Hits.item_of in
    let i = c.loop-i.i in
    let rows = block c.args.leaf.now c.args.from in
    let found = satisfied c.args.e.now rows in
    let met = c.met-many.new.met in
    let room : c.met-many.result ≤ length met = omega (arith, c.met-many.ensures.few, c.met-many.array_long) in
    let end : c.met-many.result ≤ i = omega (arith, c.loop-i-test.false, c.loop-i.auto.i-end) in
    finished _ _ (map of (drop i found)) (map of found) (none_after of rows c.met-many.result i met found room end (c.met-many.ensures.places rows c.requires.rows)) c.loop-i.invariant
