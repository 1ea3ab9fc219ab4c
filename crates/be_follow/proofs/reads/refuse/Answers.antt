use Rattle.std.proofs.Common.{None, refl}
use Rattle.be_change.specs.Requests.{refused, refusal}
use Rattle.be_protocol.specs.Requests.{plain_refusal}
use Rattle.be_protocol.proofs.Written.{gives_reply}
use Rattle.be_follow.specs.Reads.{reads_conduct}
use Rattle.be_follow.proofs.reads.refuse.Goals as goal

pub returns-clause-gives : goal.returns-clause-gives
returns-clause-gives g c = λ s h.
    gives_reply (reads_conduct s) (refused (plain_refusal c.args.refusal)) (refusal (plain_refusal c.args.refusal)) None h h _ _ _ c.say.result (refl, refl) (λ out. (refl, refl)) refl refl (c.say.ensures.wrote s)
