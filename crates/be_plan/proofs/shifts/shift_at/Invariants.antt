use Rattle.std.proofs.Common.{◌≡◌, drop}
use Rattle.be_shape.specs.Plain.{parts_as}
use Rattle.be_shape.specs.Shape.{attrs_of}
use Rattle.be_plan.specs.Shifts.{first_shift}
use Rattle.be_plan.proofs.shifts.shift_at.Given as goal

-- the first shift is among the parts that are left
abbrev pub invariant-loop-part : goal.invariant-loop-part
invariant-loop-part l =
    first_shift l.s (attrs_of (parts_as l.part-items)) (parts_as (drop l.part-index l.part-items)) ≡ first_shift l.s (attrs_of (parts_as l.part-items)) (parts_as l.part-items)
