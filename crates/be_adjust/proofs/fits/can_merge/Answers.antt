use Rattle.std.proofs.Common.{sym}
use Rattle.be_shape.specs.Plain.{plain}
use Rattle.be_shape.specs.Shape.{may_stand}
use Rattle.be_adjust.proofs.Merged.{child_may}
use Rattle.be_adjust.proofs.fits.can_merge.Goals as goal

pub fit_node-requires-clause-may : goal.fit_node-requires-clause-may
fit_node-requires-clause-may c =
    child_may (may_stand c.args.s.now) c.args.hop (plain c.args.n.now) (plain c.in-Some.m.now) (sym c.in-Some.ensures) c.requires.may
