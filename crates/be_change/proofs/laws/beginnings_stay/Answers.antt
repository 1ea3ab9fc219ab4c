use Rattle.be_change.proofs.Forms.{live_prefix, hits_prefix, names_prefix}
use Rattle.be_change.proofs.laws.beginnings_stay.Goals as goal

pub returns : goal.returns
returns c = λ h more n within. (live_prefix h more n within, λ e. hits_prefix h more n e within, λ k. names_prefix h more n k within)
