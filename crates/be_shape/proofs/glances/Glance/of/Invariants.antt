use Rattle.std.proofs.Common.{◌≡◌, take, drop}
use Rattle.be_shape.specs.Glances.{with_preds, narrowest_of, glance_of}
use Rattle.be_shape.proofs.glances.Glance.of.Given as goal

-- what is told of the predicates before this one
abbrev pub invariant-loop-at : goal.invariant-loop-at
invariant-loop-at l = with_preds (narrowest_of l.conj) (take l.at l.preds) (drop l.at l.preds) l.glance ≡ glance_of l.conj
