use Rattle.std.proofs.Common.{◌≡◌, true, drop}
use Rattle.be_shape.specs.Shape.{nothing}
use Rattle.be_shape.specs.NodeList.{known_along, are_open}
use Rattle.be_shape.specs.Spots.{known_of}
use Rattle.be_shape.proofs.spots.Spot.along.Given as goal

-- the steps that are left may be made, and lead to where all lead
abbrev pub invariant-loop-hop : goal.invariant-loop-hop
invariant-loop-hop l =
    (known_along l.s (drop l.hop-index l.hops) (known_of l.spot) ≡ known_along l.s l.hops nothing) × (are_open l.s (drop l.hop-index l.hops) (known_of l.spot) ≡ true)
