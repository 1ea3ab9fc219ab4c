use Rattle.std.proofs.Common.{◌≡◌, take}
use Rattle.be_model.proofs.sameness.are_same.Given as goal

abbrev pub invariant-loop-place : goal.invariant-loop-place
invariant-loop-place l = take l.place l.preds ≡ take l.place l.others
