use Rattle.be_model.proofs.Attributes.{rising_bounds, low_bounds, high_bounds}
use Rattle.be_model.proofs.schemas.Domain.limits.Goals as goal

pub returns-clause-rising : goal.returns-clause-rising
returns-clause-rising c = rw (c.bounds.ensures) (rising_bounds c.args.self.now c.requires)

pub returns-clause-low : goal.returns-clause-low
returns-clause-low c = rw (c.bounds.ensures) (low_bounds c.args.self.now c.requires)

pub returns-clause-high : goal.returns-clause-high
returns-clause-high c = rw (c.bounds.ensures) (high_bounds c.args.self.now c.requires)
