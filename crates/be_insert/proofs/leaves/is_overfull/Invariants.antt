use Rattle.std.proofs.Common.{◌≡◌, true, take}
use Rattle.std.specs.List.{list_all}
use Rattle.be_shape.specs.Shape.{is_stuck}
use Rattle.be_shape.specs.Spots.{known_of}
use Rattle.be_insert.proofs.leaves.is_overfull.Given as goal

-- the rows so far are stuck
abbrev pub invariant-loop-place : goal.invariant-loop-place
invariant-loop-place l = list_all (is_stuck l.s (known_of l.k)) (take l.place l.leaf) ≡ true
