use Rattle.be_follow.proofs.OneMeaning.{feeds_mean_one}
use Rattle.be_follow.proofs.laws.feeds_mean_one.Goals as goal

pub returns : goal.returns
returns c = feeds_mean_one
