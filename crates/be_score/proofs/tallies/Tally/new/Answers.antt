use Rattle.std.proofs.lemmas.List.{get_or-replicate}
use Rattle.be_score.proofs.tallies.Tally.new.Goals as goal

pub returns : goal.returns
returns c = ((λ a h. get_or-replicate 256 a 0 0 h), λ a h. get_or-replicate 256 a 0 0 h)
