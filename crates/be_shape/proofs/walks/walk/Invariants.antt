use Rattle.std.proofs.Common.{◌≡◌, drop}
use Rattle.be_shape.specs.Plain.{plain}
use Rattle.be_shape.specs.Paths.{walk}
use Rattle.be_shape.proofs.walks.walk.Given as goal

-- the steps that are left lead from here to where all lead
abbrev pub invariant-loop-hop : goal.invariant-loop-hop
invariant-loop-hop l = walk (drop l.hop-index l.hops) (plain l.at) ≡ walk l.hops (plain l.n)
