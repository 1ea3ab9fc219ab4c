use Rattle.std.proofs.Common.{◌≡◌, drop}
use Rattle.be_shape.specs.Plain.{plain}
use Rattle.be_plan.specs.Merges.{all_stay}
use Rattle.be_plan.proofs.merges.leaf_stays.Given as goal

-- all stay where those that are left do
abbrev pub invariant-loop-place : goal.invariant-loop-place
invariant-loop-place l =
    all_stay l.s l.above.hop l.above.range (plain l.above.node.now) (drop l.place l.leaf) ≡ all_stay l.s l.above.hop l.above.range (plain l.above.node.now) l.leaf
