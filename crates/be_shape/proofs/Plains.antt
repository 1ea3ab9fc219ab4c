-- A node as plain data, one level at a time.
use Rattle.std.proofs.Common.{◌≡◌, Option, Some, None, refl, ◌∙◌}
use Rattle.std.specs.Global.{Box}
use Rattle.be_base.specs.declared.names.AttrNo.{AttrNo}
use Rattle.be_shape.specs.declared.nodes.Node.{Node, roll-Node}
use Rattle.be_shape.specs.declared.nodes.Part.{Part}
use Rattle.be_shape.specs.declared.nodes.Node.TheOpen.{Node-F}
use Rattle.be_shape.specs.declared.nodes.Node.TheViews.{out-Node, out-Part}
use Rattle.be_shape.specs.declared.nodes.Node.TheFolds.{map-Node, fold_out-Node, fold-roll-Node, fold_out-Part}
use Rattle.be_shape.specs.Plain.{Plain, node, plain_node, plain_part, plain, part_as, parts_as, half_as}

abbrev with_halves : Node-F Node Part → Option (Box Node) → Option (Box Node) → Node-F Node Part
with_halves x low high = record x { low = low; high = high }

level : (x : Node-F Node Part) (low high : Option (Box Node)) → plain_node (map-Node Node Part Plain (AttrNo × Plain) plain part_as (with_halves x low high)) ≡ node x.leaf (parts_as x.parts.items) (half_as low) (half_as high)
level x None None = refl
level x None (Some b) = refl
level x (Some a) None = refl
level x (Some a) (Some b) = refl

-- a node is its rows, its parts and its halves
pub plain_out : (n : Node) → plain n ≡ node (out-Node n).leaf (parts_as (out-Node n).parts.items) (half_as (out-Node n).low) (half_as (out-Node n).high)
plain_out n = fold_out-Node Plain (AttrNo × Plain) plain_node plain_part n ∙ level (out-Node n) (out-Node n).low (out-Node n).high

pub part_out : (p : Part) → part_as p ≡ ((out-Part p).attr, plain (out-Part p).root.value)
part_out p = fold_out-Part Plain (AttrNo × Plain) plain_node plain_part p

-- and back
pub plain_roll : (x : Node-F Node Part) → plain (roll-Node x) ≡ node x.leaf (parts_as x.parts.items) (half_as x.low) (half_as x.high)
plain_roll x = fold-roll-Node Plain (AttrNo × Plain) plain_node plain_part x ∙ level x x.low x.high
