use Rattle.std.proofs.Common.{inl, None, length, refl, ◌∙◌}
use Rattle.be_change.specs.History.{hits}
use Rattle.be_change.specs.Requests.{publish, hit}
use Rattle.be_protocol.proofs.Written.{gives_reply}
use Rattle.be_follow.specs.Reads.{reads_conduct}
use Rattle.be_follow.proofs.reads.publish.Goals as goal

pub returns-in-Ok-clause-gives : goal.returns-in-Ok-clause-gives
returns-in-Ok-clause-gives g c =
    let s = c.args.follower.now.schema in
    let h = c.args.follower.now.fed.list in
    let e = c.args.event.now in
    gives_reply (reads_conduct s) (publish e) (hit (length h) (hits h e)) None h h _ _ _ c.write_all.result (inl refl, refl) (λ out. (inl refl, refl)) refl (c.as_slice.ensures.value ∙ c.in-Ok.ensures s) c.write_all.ensures.wrote

pub returns-in-Err-clause-gives : goal.returns-in-Err-clause-gives
returns-in-Err-clause-gives g c = c.want.ensures.gives c.args.follower.now.schema c.args.follower.now.fed.list c.args.event.now
