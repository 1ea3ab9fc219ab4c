use Rattle.std.proofs.Common.{◌≡◌, take}
use Rattle.std.specs.List.{count_by}
use Rattle.be_shape.specs.Common.{lists_many}
use Rattle.be_shape.proofs.tallies.count_many.Given as goal

-- the rows so far were counted
abbrev pub invariant-loop-place : goal.invariant-loop-place
invariant-loop-place l = l.many ≡ count_by lists_many (take l.place l.leaf)
