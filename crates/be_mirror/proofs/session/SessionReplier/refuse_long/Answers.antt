-- A long line asks nothing.
use Rattle.std.proofs.Common.{refl}
use Rattle.be_change.specs.Requests as asked
use Rattle.be_mirror.proofs.Said.{says_short}
use Rattle.be_mirror.proofs.Stepping.{refused_replies}
use Rattle.be_mirror.proofs.session.SessionReplier.refuse_long.Goals as goal

pub returns-clause-gives : goal.returns-clause-gives
returns-clause-gives g c = λ n.
    let s = g.J.Naming.schema in
    let glass = c.args.self.now in
    says_short s (asked.refused asked.long) (asked.refusal asked.long) glass glass _ _ c.tell.result refl (refused_replies s asked.long glass) c.tell.ensures.says
