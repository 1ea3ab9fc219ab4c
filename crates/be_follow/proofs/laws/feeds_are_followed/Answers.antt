use Rattle.be_follow.proofs.Capturing.{feeds_are_followed}
use Rattle.be_follow.proofs.laws.feeds_are_followed.Goals as goal

pub returns : goal.returns
returns c = feeds_are_followed
