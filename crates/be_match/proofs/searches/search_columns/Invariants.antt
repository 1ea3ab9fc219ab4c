use Rattle.std.proofs.Common.{map, drop, take}
use Rattle.be_model.specs.Matching.{satisfied}
use Rattle.be_index.specs.Puts.{hits_of}
use Rattle.be_index.proofs.Adding.{IsUnderway}
use Rattle.be_match.proofs.searches.search_columns.Given as goal

-- what was put, and what is still to be put of the rows that are met
abbrev pub invariant-loop-i : goal.invariant-loop-i
invariant-loop-i g l =
    let rows = take 32 (drop l.from l.leaf) in
    IsUnderway (g.C.Hits.held l.initial.found) (g.C.Hits.held l.found) (map g.C.Hits.item_of (drop l.i (satisfied l.e rows))) (hits_of g.C.Hits.item_of l.e rows)
