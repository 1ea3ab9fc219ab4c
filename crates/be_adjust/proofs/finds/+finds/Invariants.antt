use Rattle.std.proofs.Common.{◌≡◌, drop}
use Rattle.be_shape.specs.Plain.{parts_as, rows_in_parts}
use Rattle.be_adjust.specs.Finds.{may_shift, first_of}
use Rattle.be_adjust.proofs.finds.+finds.Given as goal

-- the row is below those parts that are left
abbrev pub invariant-find_in_parts-loop-part : goal.invariant-find_in_parts-loop-part
invariant-find_in_parts-loop-part l =
    first_of (may_shift l.to l.id.0) (rows_in_parts (parts_as (drop l.part-index l.parts))) ≡ first_of (may_shift l.to l.id.0) (rows_in_parts (parts_as l.parts))
