use Rattle.std.proofs.Common.{◌≡◌, length, drop}
use Rattle.be_shape.specs.Plain.{parts_as, rows_in_parts}
use Rattle.be_plan.specs.Merges.{left_after}
use Rattle.be_plan.proofs.merges.+room.Given as goal

-- what the parts that are left leave of the room is what all leave
abbrev pub invariant-room_under_parts-loop-part : goal.invariant-room_under_parts-loop-part
invariant-room_under_parts-loop-part l =
    left_after l.room (length (rows_in_parts (parts_as (drop l.part-index l.parts)))) ≡ left_after l.initial.room (length (rows_in_parts (parts_as l.parts)))
