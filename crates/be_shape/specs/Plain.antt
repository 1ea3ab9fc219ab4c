-- A node, and all below it, as plain data.
use Rattle.std.specs.Prelude.{List, [], ◌∷◌, ◌++◌, map, Option, Some, None}
use Rattle.std.specs.Global.{Box}
use Rattle.be_base.specs.declared.names.AttrNo.{AttrNo}
use Rattle.be_model.specs.declared.changes.Row.{Row}
use Rattle.be_model.specs.ByIds.{ByIds, by_ids}
use Rattle.be_shape.specs.declared.nodes.Node.{Node}
use Rattle.be_shape.specs.declared.nodes.Part.{Part}
use Rattle.be_shape.specs.declared.nodes.Node.TheOpen.{Node-F, Part-F}
use Rattle.be_shape.specs.declared.nodes.Node.TheFolds.{fold-Node, fold-Part}

mutual
  pub data Plain : Type 0 where
    -- the rows of the leaf, the parts, and the low and the high half
    node : List Row → Parts → Half → Half → Plain

  pub data Parts : Type 0 where
    no_part : Parts
    part : AttrNo → Plain → Parts → Parts

  pub data Half : Type 0 where
    no_half : Half
    half : Plain → Half

abbrev pub parts_of : List (AttrNo × Plain) → Parts
parts_of [] = no_part
parts_of (p ∷ ps) = part p.0 p.1 (parts_of ps)

abbrev pub half_of : Option (Box Plain) → Half
half_of None = no_half
half_of (Some b) = half b.value

-- one level of a node, with what is below it as plain data
abbrev pub plain_node : Node-F Plain (AttrNo × Plain) → Plain
plain_node n = node n.leaf (parts_of n.parts.items) (half_of n.low) (half_of n.high)

abbrev pub plain_part : Part-F Plain (AttrNo × Plain) → AttrNo × Plain
plain_part p = (p.attr, p.root.value)

abbrev pub plain : Node → Plain
plain = fold-Node Plain (AttrNo × Plain) plain_node plain_part

abbrev pub part_as : Part → AttrNo × Plain
part_as = fold-Part Plain (AttrNo × Plain) plain_node plain_part

abbrev pub parts_as : List Part → Parts
parts_as ps = parts_of (map part_as ps)

abbrev pub half_as : Option (Box Node) → Half
half_as None = no_half
half_as (Some b) = half (plain b.value)

-- all rows: those of the leaf, of the parts, of the low and of the high half
abbrev mutual
  pub rows_below : Plain → List Row
  rows_below (node rows parts low high) = rows ++ rows_in_parts parts ++ rows_in_half low ++ rows_in_half high

  pub rows_in_parts : Parts → List Row
  rows_in_parts no_part = []
  rows_in_parts (part a root more) = rows_below root ++ rows_in_parts more

  pub rows_in_half : Half → List Row
  rows_in_half no_half = []
  rows_in_half (half n) = rows_below n

-- what a tree contains: its rows, by their ids
abbrev pub contents : Plain → ByIds
contents n = by_ids (rows_below n)

abbrev pub leaf_of : Plain → List Row
leaf_of (node rows parts low high) = rows

abbrev pub parts_under : Plain → Parts
parts_under (node rows parts low high) = parts

-- a node with a row more in its leaf
abbrev pub with_row : Row → Plain → Plain
with_row row (node rows parts low high) = node (rows ++ row ∷ []) parts low high
