-- What is left of the feed.
use Rattle.std.proofs.Common.{length, ◌-◌}
use Rattle.worked_follow.proofs.following.feed_all.Given as goal

abbrev pub decreases-loop-from : goal.decreases-loop-from
decreases-loop-from g l = length l.feed - l.from
