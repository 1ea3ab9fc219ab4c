use Rattle.std.proofs.Common.{inr, None, refl}
use Rattle.be_change.specs.Requests.{publish, no_memory}
use Rattle.be_protocol.proofs.Written.{gives_reply}
use Rattle.be_follow.specs.Reads.{reads_conduct}
use Rattle.be_follow.proofs.reads.want.Goals as goal

pub returns-clause-gives : goal.returns-clause-gives
returns-clause-gives g c = λ s h e.
    gives_reply (reads_conduct s) (publish e) no_memory None h h _ _ _ c.say.result (inr refl, refl) (λ out. (inr refl, refl)) refl refl (c.say.ensures.wrote s)
