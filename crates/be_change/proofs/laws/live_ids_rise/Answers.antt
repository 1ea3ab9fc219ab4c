use Rattle.be_change.proofs.Grows.{live_below, rising_live}
use Rattle.be_change.proofs.laws.live_ids_rise.Goals as goal

pub returns : goal.returns
returns c = λ h. (live_below h, rising_live h)
