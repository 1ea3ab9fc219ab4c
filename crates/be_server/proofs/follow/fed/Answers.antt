-- A new follower was fed.
use Rattle.be_server.proofs.FollowEnds.{fed_fault}
use Rattle.be_server.proofs.follow.fed.Goals as goal

pub returns-in-Err : goal.returns-in-Err
returns-in-Err c =
    rw (c.from.ensures) (fed_fault c.args.schema c.args.bytes.now c.in-Ok.follower c.feed.new.self c.in-Err.fault c.in-Ok.ensures.made c.in-Ok.ensures.follows c.in-Err.ensures.follows c.in-Err.ensures.schema c.in-Err.ensures.tells)
