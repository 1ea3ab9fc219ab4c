use Rattle.be_cover.proofs.Allowing.{found_apart}
use Rattle.be_cover.proofs.values.least_apart.Goals as goal

pub returns : goal.returns
returns c = found_apart c.args.s.now c.args.q.now c.args.r.now c.args.a _ _ _ c.in_ok-values.ensures c.in_ok-others.ensures c.minus.ensures
