use Rattle.std.proofs.Common.{arith, ap, ◌∙◌}
use Rattle.be_change.specs.Entries.{Log}
use Rattle.be_change.proofs.Places.{pushed}
use Rattle.be_change.proofs.log.ChangeLog.push.Goals as goal

pub invariant_of-self : goal.invariant_of-self
invariant_of-self c =
    pushed _ _ c.args.change _ _ _ c.args.self.now.list c.self.invariant c.self.inside.changes.ok.0
    (omega (arith, ap (λ (l : Log). l.spare) c.self.view_is, c.in_default.ensures.room))
    (ap (λ (l : Log). l.list) c.self.view_is ∙ c.reserve.ensures.list) c.requires c.push_reserved.ensures.items c.push_reserved.ensures.capacity
