use Rattle.be_cover.proofs.Allowing.{found_allowed}
use Rattle.be_cover.proofs.values.least_allowed.Goals as goal

pub returns : goal.returns
returns c = found_allowed c.args.s.now c.args.c.now c.args.a _ _ c.in_ok-values.ensures c.least.ensures
