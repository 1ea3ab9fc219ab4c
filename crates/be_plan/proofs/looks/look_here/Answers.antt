use Rattle.std.specs.Arc.{arc_value}
use Rattle.be_shape.specs.Plain.{plain}
use Rattle.be_shape.specs.NodeList.{node_at}
use Rattle.be_shape.specs.Spots.{known_of}
use Rattle.be_plan.specs.Plan.{part_splits, half_splits}
use Rattle.be_plan.proofs.Looking.{still_stands}
use Rattle.be_plan.proofs.looks.look_here.Goals as goal

pub returns : goal.returns
returns c =
    let t = c.args.t.now in
    let s = arc_value t.schema in
    let root = plain t.root in
    let x = node_at c.args.path.now (known_of c.args.k.now) (plain c.args.n.now) in
    let parts = still_stands s root 2 (part_splits s t.alpha x) c.look_at_leavers.new.best c.look_at_part_split.new.best c.in_ok-look_at_part_split.ensures c.in_ok-look_at_leavers.ensures in
    still_stands s root 3 (half_splits s x) c.look_at_part_split.new.best c.look_at_half_split.new.best c.in_ok-look_at_half_split.ensures parts
