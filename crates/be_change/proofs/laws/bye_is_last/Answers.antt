use Rattle.be_change.proofs.Forms.{none_after_bye}
use Rattle.be_change.proofs.laws.bye_is_last.Goals as goal

pub returns : goal.returns
returns c = none_after_bye
