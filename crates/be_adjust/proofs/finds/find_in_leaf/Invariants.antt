use Rattle.std.proofs.Common.{◌≡◌, drop}
use Rattle.be_adjust.specs.Finds.{may_shift, first_of}
use Rattle.be_adjust.proofs.finds.find_in_leaf.Given as goal

-- the row is among those that are left
abbrev pub invariant-loop-place : goal.invariant-loop-place
invariant-loop-place l = first_of (may_shift l.to l.id.0) (drop l.place l.leaf) ≡ first_of (may_shift l.to l.id.0) l.leaf
