use Rattle.be_change.proofs.Names.{live_say, live_differ}
use Rattle.be_change.proofs.laws.live_names_differ.Goals as goal

pub returns : goal.returns
returns c = λ h w. (live_say h w, live_differ h w)
