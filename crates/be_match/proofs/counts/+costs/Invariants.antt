use Rattle.std.proofs.Common.{◌≡◌, ◌+◌, length, drop}
use Rattle.be_shape.specs.Plain.{parts_as}
use Rattle.be_shape.specs.Search.{visited_in_parts, all_of}
use Rattle.be_match.proofs.counts.+costs.Given as goal

-- what was counted, and what is still to be visited
abbrev pub invariant-parts_cost-loop-part : goal.invariant-parts_cost-loop-part
invariant-parts_cost-loop-part l =
    (l.cost.visits + length (visited_in_parts l.s l.e (parts_as (drop l.part-index l.parts))) ≡ length (visited_in_parts l.s l.e (parts_as l.parts)))
    × (l.cost.tested + length (all_of (visited_in_parts l.s l.e (parts_as (drop l.part-index l.parts)))) ≡ length (all_of (visited_in_parts l.s l.e (parts_as l.parts))))
