use Rattle.std.proofs.Common.{◌≡◌, drop}
use Rattle.be_shape.specs.Plain.{parts_as}
use Rattle.be_shape.specs.Shape.{attrs_of}
use Rattle.be_plan.specs.Shifts.{gain_of}
use Rattle.be_plan.proofs.shifts.first_gain.Given as goal

-- the first gain is among the parts that are left
abbrev pub invariant-loop-part : goal.invariant-loop-part
invariant-loop-part l =
    gain_of l.from.s.now (attrs_of (parts_as (drop l.part-index l.part-items))) l.from.attr l.row ≡ gain_of l.from.s.now (attrs_of (parts_as l.part-items)) l.from.attr l.row
