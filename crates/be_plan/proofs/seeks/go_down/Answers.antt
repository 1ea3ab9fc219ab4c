use Rattle.std.specs.Arc.{arc_value}
use Rattle.be_shape.specs.Plain.{plain}
use Rattle.be_shape.specs.Spots.{known_of}
use Rattle.be_plan.proofs.Places.{open_below}
use Rattle.be_plan.proofs.seeks.go_down.Goals as goal

pub enter-requires : goal.enter-requires
enter-requires c =
    open_below (arc_value c.args.t.now.schema) (known_of c.args.k.now) (plain c.args.n.now) (plain c.args.m.now) c.args.hop c.requires.at.right c.requires.there
