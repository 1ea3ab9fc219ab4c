use Rattle.std.proofs.Common.{◌≡◌, take}
use Rattle.be_shape.specs.Common.{IsTold}
use Rattle.be_shape.proofs.Commons.{AreCounted}
use Rattle.be_shape.proofs.tallies.common_by.Given as goal

-- the rows so far were counted
abbrev pub invariant-loop-place : goal.invariant-loop-place
invariant-loop-place l =
    AreCounted (take l.place l.leaf) l.tally.counts × IsTold l.tally.counts l.tally.wanted l.tally.common × (l.tally.wanted ≡ l.wanted)
