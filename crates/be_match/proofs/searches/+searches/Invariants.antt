use Rattle.std.proofs.Common.{◌≡◌, ◌≤◌, true, cond, ◌∷◌, [], drop}
use Rattle.be_shape.specs.Plain.{plain, parts_as, leaf_of}
use Rattle.be_shape.specs.Ranges.{is_bounded, is_rising}
use Rattle.be_shape.specs.Search.{visited, visited_in_parts}
use Rattle.be_shape.proofs.nodes.Node.TheLaws.{the_size}
use Rattle.be_match.specs.Ahead.{ahead_in_parts}
use Rattle.be_match.proofs.Descents.{IsDescending}
use Rattle.be_match.proofs.searches.+searches.Given as goal

-- the node and its range, which lie no higher than where the search began; and what was put and counted, and is still to be visited
abbrev pub invariant-search_node-loop-found : goal.invariant-search_node-loop-found
invariant-search_node-loop-found g l =
    (the_size l.here ≤ the_size l.initial.here) × (is_bounded l.within ≡ true) × (is_rising l.within ≡ true)
    × IsDescending g.C.Hits.item_of l.e (g.C.Hits.held l.initial.found) (g.C.Hits.held l.found) l.initial.cost l.cost (leaf_of (plain l.initial.here) ∷ []) (visited l.s l.e l.initial.within (plain l.initial.here)) (leaf_of (plain l.here) ∷ []) (visited l.s l.e l.within (plain l.here))

-- what was counted and put, and what is still to be visited
abbrev pub invariant-search_parts-loop-part : goal.invariant-search_parts-loop-part
invariant-search_parts-loop-part g l =
    IsDescending g.C.Hits.item_of l.e (g.C.Hits.held l.initial.found) (g.C.Hits.held l.found) l.initial.cost l.cost (cond l.ahead (ahead_in_parts l.e (parts_as l.parts)) []) (visited_in_parts l.s l.e (parts_as l.parts))
    (cond l.ahead (ahead_in_parts l.e (parts_as (drop l.part-index l.parts))) [])
    (visited_in_parts l.s l.e (parts_as (drop l.part-index l.parts)))
