use Rattle.std.proofs.Common.{◌≡◌, drop, None}
use Rattle.be_shape.specs.Plain.{plain}
use Rattle.be_shape.specs.Paths.{walk, range_along}
use Rattle.be_shape.specs.Ranges.{StandsIn}
use Rattle.be_shape.proofs.walks.walk_range.Given as goal

-- the steps that are left lead from here to where all lead, in the range that all lead to
abbrev pub invariant-loop-hop : goal.invariant-loop-hop
invariant-loop-hop l =
    (walk (drop l.hop-index l.hops) (plain l.at) ≡ walk l.hops (plain l.n)) × (range_along l.s (drop l.hop-index l.hops) l.range ≡ range_along l.s l.hops None) × StandsIn l.s l.range (plain l.at)
