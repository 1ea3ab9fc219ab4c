use Rattle.std.proofs.Common.{◌≡◌, drop}
use Rattle.be_shape.specs.Plain.{parts_as}
use Rattle.be_shape.specs.Shape.{attrs_of, is_used}
use Rattle.be_plan.proofs.movers.is_among.Given as goal

-- there is one where there is one among those that are left
abbrev pub invariant-loop-part : goal.invariant-loop-part
invariant-loop-part l =
    is_used (attrs_of (parts_as (drop l.part-index l.parts))) l.a ≡ is_used (attrs_of (parts_as l.parts)) l.a
