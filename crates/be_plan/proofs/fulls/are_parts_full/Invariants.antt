use Rattle.std.proofs.Common.{◌≡◌, ◌&&◌, drop}
use Rattle.be_shape.specs.Children.{roots_of}
use Rattle.be_shape.specs.Plain.{parts_as}
use Rattle.be_plan.specs.Merges.{all_full}
use Rattle.be_plan.proofs.fulls.are_parts_full.Given as goal

-- all are full where those so far and those that are left are
abbrev pub invariant-loop-part : goal.invariant-loop-part
invariant-loop-part l =
    (l.full && all_full (roots_of (parts_as (drop l.part-index l.parts)))) ≡ all_full (roots_of (parts_as l.parts))
