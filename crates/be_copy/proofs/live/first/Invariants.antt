-- No wanted row stands below `from`.
use Rattle.std.proofs.Common.{◌-◌}
use Rattle.be_base.specs.declared.limits.TheConstants.{LOG_CHANGES}
use Rattle.be_copy.specs.Wanted.{wants}
use Rattle.be_copy.proofs.Firsts.{NoneBelow}
use Rattle.be_copy.proofs.live.first.Given as goal

abbrev pub invariant-loop-id : goal.invariant-loop-id
invariant-loop-id g l = NoneBelow (wants l.wanted) l.from (g.I.Index.rows l.index)

abbrev pub decreases-loop-id : goal.decreases-loop-id
decreases-loop-id g l = LOG_CHANGES - l.from
