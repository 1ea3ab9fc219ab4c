use Rattle.std.proofs.Common.{◌≡◌, ℕ, ◌<◌, Some, slice_get}
use Rattle.be_shape.proofs.leaves.Leaf.place_of.Given as goal

-- the row stood at no place so far
abbrev pub invariant-loop-place : goal.invariant-loop-place
invariant-loop-place l = (i : ℕ) → i < l.place → slice_get l.self i ≡ Some l.row → ⊥
