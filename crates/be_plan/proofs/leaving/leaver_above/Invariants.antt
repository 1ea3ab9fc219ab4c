use Rattle.std.proofs.Common.{◌≡◌, take, drop, Some}
use Rattle.be_shape.specs.Plain.{plain}
use Rattle.be_shape.specs.Paths.{walk}
use Rattle.be_plan.proofs.leaving.leaver_above.Given as goal

-- the steps so far lead here, and those that are left lead from here to where all lead
abbrev pub invariant-loop-depth : goal.invariant-loop-depth
invariant-loop-depth l =
    (walk (take l.depth l.way) (plain l.root) ≡ Some (plain l.at)) × (walk (drop l.depth l.way) (plain l.at) ≡ walk l.way (plain l.root))
