use Rattle.std.proofs.Common.{◌≡◌, ◌+◌, drop}
use Rattle.be_shape.specs.Plain.{parts_as}
use Rattle.be_insert.specs.Rooms.{part_place}
use Rattle.be_insert.proofs.splits.place_for.Given as goal

-- the part belongs so far behind those that were passed
abbrev pub invariant-loop-part : goal.invariant-loop-part
invariant-loop-part l =
    (l.place + part_place l.a (parts_as (drop l.part-index l.parts)) ≡ part_place l.a (parts_as l.parts)) × (l.place ≡ l.part-index)
