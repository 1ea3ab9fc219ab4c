use Rattle.std.proofs.Common.{◌≡◌, ◌++◌, drop}
use Rattle.be_shape.specs.Plain.{parts_as, rows_in_parts}
use Rattle.be_adjust.proofs.moves.+moves.Given as goal

-- what was moved, and what is still below the parts not yet visited
abbrev pub invariant-move_parts-loop-place : goal.invariant-move_parts-loop-place
invariant-move_parts-loop-place l =
    (l.leaf ++ rows_in_parts (parts_as (drop l.place l.initial.parts.items)) ≡ l.initial.leaf ++ rows_in_parts (parts_as l.initial.parts.items)) × goal.unvisited-move_parts-loop-place l
