use Rattle.std.proofs.Common.{◌≡◌, take}
use Rattle.be_plan.proofs.looks.path_of.Given as goal

-- the path has the steps so far
abbrev pub invariant-loop-hop : goal.invariant-loop-hop
invariant-loop-hop l = l.path ≡ take l.hop-index l.hops
