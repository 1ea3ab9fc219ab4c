use Rattle.std.proofs.Common.{[]}
use Rattle.std.specs.Arc.{arc_value}
use Rattle.be_shape.specs.Plain.{plain}
use Rattle.be_shape.specs.Shape.{nothing}
use Rattle.be_shape.specs.Spots.{known_of}
use Rattle.be_shape.proofs.Roots.{root_of}
use Rattle.be_plan.proofs.Places.{at_root, at_moved}
use Rattle.be_plan.proofs.looks.look_on.Goals as goal

pub look_from-requires-clause-at : goal.look_from-requires-clause-at
look_from-requires-clause-at c =
    let t = c.args.t.now in
    let s = arc_value t.schema in
    let n = plain t.root in at_moved s n [] c.make-path.result nothing (known_of c.root-spot.result) n (at_root s n (root_of t)) c.make-path.ensures c.root-spot.ensures
