use Rattle.be_change.proofs.Forms.{formed_serials}
use Rattle.be_change.proofs.laws.serials_count.Goals as goal

pub returns : goal.returns
returns c = λ h k i e w at. formed_serials k h w i e at
