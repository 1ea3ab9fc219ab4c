-- Room for one child more.
use Rattle.std.specs.Prelude.{◌<◌, ◌+◌, ℕ, nat_lt, vec_len, vec_capacity, if◌then◌else◌}
use Rattle.be_model.specs.declared.paths.Hop.{Hop}
use Rattle.be_model.specs.declared.paths.Hop.TheVariants.{Part, Low, High}
use Rattle.be_base.specs.declared.names.AttrNo.{AttrNo}
use Rattle.be_shape.specs.declared.nodes.Node.{Node}
use Rattle.be_shape.specs.declared.nodes.Node.TheViews.{out-Node}
use Rattle.be_shape.specs.Plain.{Parts, no_part, part}

-- a child may be put at the end of this step without memory
abbrev pub HasRoom : Hop → Node → Type 0
HasRoom (Part a) n = vec_len (out-Node n).parts < vec_capacity (out-Node n).parts
HasRoom Low n = Unit {0}
HasRoom High n = Unit {0}

-- where a part of the attribute belongs among parts that rise: before the first of a greater one
abbrev pub part_place : AttrNo → Parts → ℕ
part_place a no_part = 0
part_place a (part b root more) = if nat_lt a.0 b.0 then 0 else part_place a more + 1
