use Rattle.std.proofs.Common.{List, drop, take}
use Rattle.be_model.specs.declared.changes.Row.{Row}
use Rattle.be_index.specs.Puts.{hits_of}
use Rattle.be_index.proofs.Adding.{IsUnderway}
use Rattle.be_shape.specs.Chosen.{AreAt}
use Rattle.be_match.proofs.searches.search_places.Given as goal

-- what was put, and what is still to be asked of the rows at the places that were chosen
abbrev pub invariant-loop-i : goal.invariant-loop-i
invariant-loop-i g l =
    (rows : List Row) → AreAt l.leaf l.from (take l.count l.chosen) rows → IsUnderway (g.C.Hits.held l.initial.found) (g.C.Hits.held l.found) (hits_of g.C.Hits.item_of l.e (drop l.i rows)) (hits_of g.C.Hits.item_of l.e rows)
