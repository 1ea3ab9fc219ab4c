use Rattle.std.proofs.Common.{◌≡◌, drop, None}
use Rattle.be_shape.specs.Plain.{parts_as}
use Rattle.be_shape.specs.Shape.{attrs_of}
use Rattle.be_insert.specs.Ways.{best_from}
use Rattle.be_insert.proofs.places.best_part.Given as goal

-- the best of those so far and of those that are left is the best of all
abbrev pub invariant-loop-part : goal.invariant-loop-part
invariant-loop-part l =
    (best_from l.s l.row l.place l.best (attrs_of (parts_as (drop l.part-index l.parts))) ≡ best_from l.s l.row 0 None (attrs_of (parts_as l.parts))) × (l.place ≡ l.part-index)
