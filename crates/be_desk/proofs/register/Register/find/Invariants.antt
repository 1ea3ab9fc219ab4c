-- No wanted row stands below `from`.
use Rattle.std.proofs.Common.{◌-◌}
use Rattle.be_base.specs.declared.limits.TheConstants.{LOG_CHANGES}
use Rattle.be_change.specs.History.{live}
use Rattle.be_copy.specs.Wanted.{wants}
use Rattle.be_copy.proofs.Firsts.{NoneBelow}
use Rattle.be_desk.proofs.register.Register.find.Given as goal

abbrev pub invariant-loop-id : goal.invariant-loop-id
invariant-loop-id l = NoneBelow (wants l.wanted) l.from (live l.list.list)

abbrev pub decreases-loop-id : goal.decreases-loop-id
decreases-loop-id l = LOG_CHANGES - l.from
