use Rattle.std.specs.Arc.{arc_value}
use Rattle.be_shape.specs.Plain.{plain}
use Rattle.be_shape.proofs.NodeList.{at_nodes}
use Rattle.be_shape.proofs.laws.nodes_are_everywhere.Goals as goal

pub returns : goal.returns
returns c = let t = c.args.t.now in at_nodes (arc_value t.schema) (plain t.root)
