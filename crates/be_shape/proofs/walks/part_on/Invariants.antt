use Rattle.std.proofs.Common.{◌≡◌, drop}
use Rattle.be_shape.specs.Plain.{parts_as}
use Rattle.be_shape.specs.Paths.{part_on}
use Rattle.be_shape.proofs.walks.part_on.Given as goal

-- the part is among those that are left
abbrev pub invariant-loop-part : goal.invariant-loop-part
invariant-loop-part l = part_on l.a (parts_as (drop l.part-index l.parts)) ≡ part_on l.a (parts_as l.parts)
