use Rattle.std.proofs.Common.{◌≡◌, ◌+◌, length, drop}
use Rattle.be_shape.specs.Plain.{parts_as, rows_in_parts}
use Rattle.be_shape.proofs.counts.+counts.Given as goal

-- what was counted, and what is still to be counted
abbrev pub invariant-rows_of_parts-loop-part : goal.invariant-rows_of_parts-loop-part
invariant-rows_of_parts-loop-part l =
    l.count + length (rows_in_parts (parts_as (drop l.part-index l.parts))) ≡ length (rows_in_parts (parts_as l.parts))
