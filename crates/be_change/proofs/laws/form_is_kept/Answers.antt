use Rattle.be_change.proofs.Forms.{formed_append}
use Rattle.be_change.proofs.laws.form_is_kept.Goals as goal

pub returns : goal.returns
returns c = formed_append
