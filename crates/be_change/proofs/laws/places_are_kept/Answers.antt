use Rattle.be_change.proofs.Placed.{placed_kept}
use Rattle.be_change.proofs.laws.places_are_kept.Goals as goal

pub returns : goal.returns
returns c = placed_kept
