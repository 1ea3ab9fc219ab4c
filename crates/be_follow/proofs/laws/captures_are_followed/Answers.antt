use Rattle.be_follow.proofs.Capturing.{captures_are_followed}
use Rattle.be_follow.proofs.laws.captures_are_followed.Goals as goal

pub returns : goal.returns
returns c = captures_are_followed
