use Rattle.std.proofs.Common.{◌∙◌}
use Rattle.be_shape.proofs.GapSets.{tell_gaps}
use Rattle.be_shape.proofs.gaps.gaps_of.Goals as goal

pub returns-in-OneOf : goal.returns-in-OneOf
returns-in-OneOf c = tell_gaps c.args.pred.now c.in-OneOf.xs c.args.a c.args.ends c.gaps_of_set.result c.in-OneOf.is (c.if-pred-from.false ∙ c.from.ensures) (record { from = c.ends_fit.ensures.low_from; to = c.ends_fit.ensures.low_to }) (record { from = c.ends_fit.ensures.high_from; to = c.ends_fit.ensures.high_to }) c.gaps_of_set.ensures
