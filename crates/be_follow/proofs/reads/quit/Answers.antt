use Rattle.std.proofs.Common.{◌≡◌, Some, refl, ap, ℕ}
use Rattle.be_change.specs.Requests.{Reply, quit, bye}
use Rattle.be_protocol.specs.declared.ends.SessionEnd.TheVariants as ends
use Rattle.be_protocol.proofs.Written.{gives_reply}
use Rattle.be_follow.specs.Reads.{reads_conduct}
use Rattle.be_follow.proofs.reads.quit.Goals as goal

pub returns-clause-gives : goal.returns-clause-gives
returns-clause-gives g c =
    let s = c.args.follower.now.schema in
    let h = c.args.follower.now.fed.list in
    let due = ap (λ (n : ℕ). bye n) c.len.ensures.len in
    gives_reply (reads_conduct s) quit (bye c.len.result) (Some ends.Quit) h h _ _ _ c.say.result (due, refl) (λ out. (due, refl)) refl refl (c.say.ensures.wrote s)
