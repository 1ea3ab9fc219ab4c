use Rattle.std.proofs.Common.{◌≡◌, drop}
use Rattle.be_shape.specs.Plain.{parts_as}
use Rattle.be_shape.specs.Shape.{attrs_of}
use Rattle.be_plan.specs.Shifts.{are_small}
use Rattle.be_plan.proofs.movers.are_small.Given as goal

-- all are small where those that are left are
abbrev pub invariant-loop-part : goal.invariant-loop-part
invariant-loop-part l =
    are_small l.s (attrs_of (parts_as (drop l.part-index l.parts))) ≡ are_small l.s (attrs_of (parts_as l.parts))
