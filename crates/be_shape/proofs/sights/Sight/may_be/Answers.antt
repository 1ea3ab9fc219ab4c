use Rattle.std.proofs.Common.{◌<◌, ap, arith}
use Rattle.be_model.specs.Schemas.{numbered}
use Rattle.be_shape.specs.SetNotes.{passes_set}
use Rattle.be_shape.proofs.sights.Sight.may_be.Goals as goal

pub returns : goal.returns
returns c =
    let few : c.args.a < 256 = omega (arith, c.ranges.a.fits) in
    let told = c.self.invariant.0.told (numbered c.args.a) in
    rw (c.may_be.ensures, c.from.ensures, told _ few) (ap (λ e. passes_set e c.args.middle (c.args.a, c.args.slot)) c.self.view_is)
