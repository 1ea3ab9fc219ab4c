use Rattle.std.proofs.Common.{◌<◌, ap, arith}
use Rattle.be_model.specs.Schemas.{numbered}
use Rattle.be_shape.specs.Lanes.{lets_event}
use Rattle.be_shape.proofs.sights.Sight.lets.Goals as goal

pub returns : goal.returns
returns c =
    let few : c.args.a < 256 = omega (arith, c.ranges.a.fits) in
    let told = c.self.invariant.0.told (numbered c.args.a) in
    rw (c.lets.ensures, c.from.ensures, told _ few) (ap (λ e. lets_event e (c.args.a, c.args.slot)) c.self.view_is)
