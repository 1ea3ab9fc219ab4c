use Rattle.std.proofs.Common.{◌≡◌, take}
use Rattle.std.specs.List.{count_by}
use Rattle.be_shape.specs.Children.{may_pass}
use Rattle.be_shape.proofs.looks.count_passing.Given as goal

-- the rows so far are counted
abbrev pub invariant-loop-place : goal.invariant-loop-place
invariant-loop-place l = l.count ≡ count_by (may_pass l.s l.hop l.range) (take l.place l.leaf)
