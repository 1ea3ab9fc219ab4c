use Rattle.be_change.proofs.Forms.{formed_front}
use Rattle.be_change.proofs.laws.beginnings_are_formed.Goals as goal

pub returns : goal.returns
returns c = formed_front
