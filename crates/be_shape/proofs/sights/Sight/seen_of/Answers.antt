use Rattle.std.proofs.Common.{◌<◌, ap, arith}
use Rattle.be_model.specs.Matching.{values_of}
use Rattle.be_model.specs.Schemas.{numbered}
use Rattle.be_shape.specs.Lanes.{seen}
use Rattle.be_shape.proofs.sights.Sight.seen_of.Goals as goal

pub returns : goal.returns
returns c =
    let few : c.args.a < 256 = omega (arith, c.ranges.a.fits) in
    let told = c.self.invariant.0.told (numbered c.args.a) in
    rw (c.from.ensures, told _ few) (ap (λ e. seen (values_of e (numbered c.args.a))) c.self.view_is)
