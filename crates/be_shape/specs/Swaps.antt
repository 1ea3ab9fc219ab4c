-- A node in the place of another.
use Rattle.std.specs.Prelude.{ℕ, ◌+◌, ◌==◌, Option, Some, None, option_map, if◌then◌else◌}
use Rattle.be_base.specs.declared.names.AttrNo.{AttrNo}
use Rattle.be_shape.specs.Plain.{Plain, Parts, no_part, part}

-- the place of the part of an attribute
abbrev pub place_on : AttrNo → Parts → Option ℕ
place_on a no_part = None
place_on a (part b root more) = if b.0 == a.0 then Some 0 else option_map (λ i. i + 1) (place_on a more)

-- a node where there is one, or else another
abbrev pub node_or : Plain → Option Plain → Plain
node_or m None = m
node_or m (Some n) = n
