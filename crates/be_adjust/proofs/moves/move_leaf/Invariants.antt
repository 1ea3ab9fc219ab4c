use Rattle.std.proofs.Common.{◌≡◌, ◌++◌, length}
use Rattle.be_adjust.proofs.moves.move_leaf.Given as goal

-- what was moved and what is left are what there was
abbrev pub invariant-loop-leaf : goal.invariant-loop-leaf
invariant-loop-leaf l = l.leaf ++ l.rows ≡ l.initial.leaf ++ l.initial.rows

abbrev pub decreases-loop-leaf : goal.decreases-loop-leaf
decreases-loop-leaf l = length l.rows
