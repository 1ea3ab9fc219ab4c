use Rattle.std.proofs.Common.{◌≡◌, drop}
use Rattle.std.specs.List.{list_any}
use Rattle.be_model.specs.Rows.{has}
use Rattle.be_shape.specs.Plain.{parts_as}
use Rattle.be_shape.specs.Shape.{attrs_of}
use Rattle.be_remove.proofs.takes.has_part.Given as goal

-- the part is among those that are left
abbrev pub invariant-loop-part : goal.invariant-loop-part
invariant-loop-part l =
    list_any (λ a. has a l.row) (attrs_of (parts_as (drop l.part-index l.parts))) ≡ list_any (λ a. has a l.row) (attrs_of (parts_as l.parts))
