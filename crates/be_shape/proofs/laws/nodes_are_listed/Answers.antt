use Rattle.std.specs.Arc.{arc_value}
use Rattle.be_shape.specs.Plain.{plain}
use Rattle.be_shape.proofs.NodeList.{are_listed}
use Rattle.be_shape.proofs.laws.nodes_are_listed.Goals as goal

pub returns : goal.returns
returns c = let t = c.args.t.now in are_listed (arc_value t.schema) (plain t.root)
