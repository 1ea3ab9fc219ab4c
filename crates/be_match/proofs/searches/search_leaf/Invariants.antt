use Rattle.std.proofs.Common.{◌≤◌, ◌-◌, drop, length}
use Rattle.be_index.specs.Puts.{hits_of}
use Rattle.be_index.proofs.Adding.{IsUnderway}
use Rattle.be_match.proofs.searches.search_leaf.Given as goal

-- what was put, and what is still to be tested
abbrev pub invariant-loop-from : goal.invariant-loop-from
invariant-loop-from g l =
    (l.from ≤ length l.leaf) × IsUnderway (g.C.Hits.held l.initial.found) (g.C.Hits.held l.found) (hits_of g.C.Hits.item_of l.e (drop l.from l.leaf)) (hits_of g.C.Hits.item_of l.e l.leaf)

abbrev pub decreases-loop-from : goal.decreases-loop-from
decreases-loop-from g l = length l.leaf - l.from
