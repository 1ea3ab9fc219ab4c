use Rattle.std.proofs.Common.{◌≡◌, [], take, drop}
use Rattle.be_shape.specs.Glances.{with_widths}
use Rattle.be_shape.specs.Widths.{first_three}
use Rattle.be_shape.proofs.widths.Narrowest.of.Given as goal

-- the predicates before this one are looked at
abbrev pub invariant-loop-at : goal.invariant-loop-at
invariant-loop-at l = with_widths (take l.at l.preds) (drop l.at l.preds) l.narrowest ≡ with_widths [] l.preds first_three
