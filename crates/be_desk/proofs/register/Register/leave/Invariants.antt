-- The rows that are left are those of the register, and without the session's they are as at the beginning.
use Rattle.be_desk.proofs.Leaving.{IsLeaving}
use Rattle.be_desk.proofs.register.Register.leave.Given as goal

abbrev pub invariant-loop-id : goal.invariant-loop-id
invariant-loop-id l = IsLeaving l.self l.list.list l.session.0

abbrev pub decreases-loop-id : goal.decreases-loop-id
decreases-loop-id l = l.self.count
