use Rattle.std.proofs.Common.{◌≡◌, ◌++◌, drop}
use Rattle.be_base.specs.Lists.{BeginsWith}
use Rattle.be_model.specs.Rows.{KeepsRoom}
use Rattle.be_tree.specs.Gathered.{wanted}
use Rattle.be_tree.proofs.gathers.gather_leaf.Given as goal

-- what was put, and what is still to be looked at
abbrev pub invariant-loop-place : goal.invariant-loop-place
invariant-loop-place l =
    (l.found.rows ++ wanted l.session (drop l.place l.leaf) ≡ l.initial.found.rows ++ wanted l.session l.leaf) × BeginsWith l.found.rows l.initial.found.rows × KeepsRoom l.initial.found l.found
