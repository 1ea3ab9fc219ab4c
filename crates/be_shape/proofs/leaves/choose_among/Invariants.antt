use Rattle.std.proofs.Common.{◌≡◌, ◌≤◌, length, take}
use Rattle.be_shape.specs.Chosen.{Covers}
use Rattle.be_shape.specs.Leaves.{rows_of_places}
use Rattle.be_shape.proofs.leaves.choose_among.Given as goal

-- the places that were chosen so far
abbrev pub invariant-loop-at : goal.invariant-loop-at
invariant-loop-at l = (l.count ≤ l.at) × (length l.chosen ≡ 32) × Covers l.e (rows_of_places l.places) l.from l.at (take l.count l.chosen)
