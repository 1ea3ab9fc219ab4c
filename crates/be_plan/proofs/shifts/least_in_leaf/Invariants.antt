use Rattle.std.proofs.Common.{◌≡◌, drop}
use Rattle.be_shape.specs.Plain.{parts_as}
use Rattle.be_shape.specs.Shape.{attrs_of}
use Rattle.be_plan.specs.Shifts.{lower_id, least_gain}
use Rattle.be_plan.proofs.shifts.least_in_leaf.Given as goal

-- the least of those so far and of those that are left is the least of all
abbrev pub invariant-loop-place : goal.invariant-loop-place
invariant-loop-place l =
    lower_id l.best (least_gain l.from.s.now (attrs_of (parts_as l.from.parts.now)) l.from.attr (drop l.place l.leaf)) ≡ lower_id l.initial.best (least_gain l.from.s.now (attrs_of (parts_as l.from.parts.now)) l.from.attr l.leaf)
