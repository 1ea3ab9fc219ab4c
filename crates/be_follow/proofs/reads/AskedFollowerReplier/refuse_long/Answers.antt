use Rattle.be_follow.proofs.reads.AskedFollowerReplier.refuse_long.Goals as goal

pub returns-clause-gives : goal.returns-clause-gives
returns-clause-gives g c = λ n. c.refuse.ensures.gives c.args.self.now.follower.now.schema c.args.self.now.follower.now.fed.list
