use Rattle.std.proofs.Common.{◌≡◌}
use Rattle.be_follow.proofs.AllDue.{reads_end}
use Rattle.be_follow.proofs.reads.serve_reads.Goals as goal

pub returns-clause-ends : goal.returns-clause-ends
returns-clause-ends g c = reads_end _ (c.converse.new.link ≡ c.args.link.now) c.args.follower.now.schema c.args.follower.now.fed.list _ _ _ c.converse.result (λ u. u.0) c.converse.ensures.ends
