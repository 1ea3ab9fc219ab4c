use Rattle.std.proofs.Common.{◌≡◌, ◌+◌, ◌<◌, ◌≤◌, min, drop, take, length, refl, arith}
use Rattle.std.proofs.lemmas.List.{length-drop}
use Rattle.be_index.specs.Puts.{hits_of}
use Rattle.be_index.proofs.Adding.{on_refusal, underway_next, underway_refused}
use Rattle.be_match.proofs.Blocks.{block_at}
use Rattle.be_match.proofs.searches.search_leaf.Goals as goal

pub loop-from-preserved : goal.loop-from-preserved
loop-from-preserved g c =
    let put = hits_of g.C.Hits.item_of c.args.e.now in
    let rows = c.args.leaf.now in
    let from = c.loop-from.from in
    let many = c.min-many.result in
    let is : many ≡ min 32 (length (drop from rows)) = omega (arith, c.min-many.ensures, c.len-count.ensures, length-drop from rows, c.loop-from.invariant.0) in
    let below : from + many ≤ length rows = omega (arith, is, length-drop from rows, c.loop-from.invariant.0) in (
      below,
      underway_next _ _ (g.C.Hits.held c.search_block.new.found) (put (drop from rows)) (put (take 32 (drop from rows))) (put (drop (from + many) rows)) (put rows) (block_at g.C.Hits.item_of c.args.e.now rows from many is) c.loop-from.invariant.1
          c.in_ok-search_block.ensures.put c.in_ok-search_block.ensures.grown,
    )

pub returns-in_err-search_block-clause-refused : goal.returns-in_err-search_block-clause-refused
returns-in_err-search_block-clause-refused g c =
    let put = hits_of g.C.Hits.item_of c.args.e.now in
    let rows = c.args.leaf.now in
    let from = c.loop-from.from in
    let many = min 32 (length (drop from rows)) in
    on_refusal c.from_residual.result ((g.C.Hits.held c.args.found.now).sure < length (put rows)) (underway_refused _ _ (put (drop from rows)) (put (take 32 (drop from rows))) (put (drop (from + many) rows)) (put rows)
    (block_at g.C.Hits.item_of c.args.e.now rows from many refl) c.loop-from.invariant.1 c.in_err-search_block.ensures.refused)
