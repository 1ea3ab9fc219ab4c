use Rattle.std.proofs.Common.{◌≡◌}
use Rattle.std.specs.Arc.{arc_value}
use Rattle.be_shape.specs.Plain.{plain}
use Rattle.be_shape.specs.Spots.{known_of}
use Rattle.be_plan.specs.Looks.{Stands}
use Rattle.be_plan.proofs.looks.+looks.Given as goal

-- path and spot are as before, and the best step so far stands
abbrev pub invariant-look_from-loop-part : goal.invariant-look_from-loop-part
invariant-look_from-loop-part l =
    (l.path ≡ l.initial.path) × (known_of l.k ≡ known_of l.initial.k) × Stands (arc_value l.t.schema) (plain l.t.root) l.slice.best.step
