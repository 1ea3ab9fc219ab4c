use Rattle.std.proofs.Common.{◌≡◌, drop}
use Rattle.std.specs.Arc.{arc_value}
use Rattle.be_shape.specs.Plain.{plain, parts_as}
use Rattle.be_shape.specs.NodeList.{nodes_in_parts}
use Rattle.be_shape.specs.Spots.{known_of}
use Rattle.be_plan.specs.Best.{best_after}
use Rattle.be_plan.proofs.seeks.+seeks.Given as goal

-- path and spot are as before, and the best after the parts that are left is the best after all
abbrev pub invariant-seek-loop-part : goal.invariant-seek-loop-part
invariant-seek-loop-part l =
    (l.path ≡ l.initial.path) × (known_of l.k ≡ known_of l.initial.k)
    × (best_after (arc_value l.t.schema) l.t.alpha (plain l.t.root) (nodes_in_parts (arc_value l.t.schema) l.initial.path (known_of l.initial.k) (parts_as (drop l.part-index l.part-items))) l.best
    ≡ best_after (arc_value l.t.schema) l.t.alpha (plain l.t.root) (nodes_in_parts (arc_value l.t.schema) l.initial.path (known_of l.initial.k) (parts_as l.part-items)) l.initial.best)
