use Rattle.std.proofs.Common.{◌≡◌, drop}
use Rattle.be_shape.specs.Plain.{parts_as, rows_in_parts}
use Rattle.be_shape.specs.Shape.{attrs_of}
use Rattle.be_plan.specs.Shifts.{lower_id, least_gain}
use Rattle.be_plan.proofs.shifts.+gains.Given as goal

-- the least of those so far and of those that are left is the least of all
abbrev pub invariant-least_in_parts-loop-part : goal.invariant-least_in_parts-loop-part
invariant-least_in_parts-loop-part l =
    lower_id l.best (least_gain l.from.s.now (attrs_of (parts_as l.from.parts.now)) l.from.attr (rows_in_parts (parts_as (drop l.part-index l.parts)))) ≡ lower_id l.initial.best (least_gain l.from.s.now (attrs_of (parts_as l.from.parts.now)) l.from.attr (rows_in_parts (parts_as l.parts)))
