use Rattle.std.proofs.Common.{◌∙◌}
use Rattle.be_model.specs.declared.paths.Hop.TheVariants.{Part}
use Rattle.be_model.specs.Schemas.{numbered}
use Rattle.be_shape.specs.Plain.{plain}
use Rattle.be_plan.proofs.Looking.{way_gone, way_left}
use Rattle.be_plan.proofs.leaving.leaver_above.Goals as goal

pub loop-depth-preserved : goal.loop-depth-preserved
loop-depth-preserved c =
    let way = c.args.way.now in
    let i = c.loop-depth.depth in
    let d = Part (numbered 0) in
    let root = plain c.args.root.now in
    let n = plain c.loop-depth.at.now in
    let m = plain c.in-Some-child.below.now in (
      way_gone way i d root n m c.loop-depth-test.true c.loop-depth.invariant.0 c.in-Some-child.ensures,
      way_left way i d n m c.loop-depth-test.true c.in-Some-child.ensures ∙ c.loop-depth.invariant.1,
    )
