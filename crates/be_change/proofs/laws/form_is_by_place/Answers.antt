use Rattle.be_change.proofs.Forms.{formed_each, formed_from_each}
use Rattle.be_change.proofs.laws.form_is_by_place.Goals as goal

pub returns : goal.returns
returns c = λ h. (formed_each h, formed_from_each h)
