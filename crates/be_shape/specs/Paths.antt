-- Ways from a node to one below it, and the range at their end.
use Rattle.std.specs.Prelude.{ℤ, ◌==◌, Bool, false, List, [], ◌∷◌, Option, Some, None, option_and_then, option_map, if◌then◌else◌}
use Rattle.std.specs.List.{list_any}
use Rattle.be_base.specs.declared.names.AttrNo.{AttrNo}
use Rattle.be_model.specs.declared.paths.Hop.{Hop}
use Rattle.be_model.specs.declared.paths.Hop.TheVariants.{Part, Low, High}
use Rattle.be_model.specs.Domains.{Range}
use Rattle.be_model.specs.Schemas.{Attributes}
use Rattle.be_shape.specs.Shape.{NodeRange, whole, lower, upper}
use Rattle.be_shape.specs.Plain.{Plain, node, Parts, no_part, part, Half, no_half, half}

abbrev pub part_on : AttrNo → Parts → Option Plain
part_on a no_part = None
part_on a (part b root more) = if b.0 == a.0 then Some root else part_on a more

abbrev pub in_half : Half → Option Plain
in_half no_half = None
in_half (half n) = Some n

abbrev pub child : Hop → Plain → Option Plain
child (Part a) (node rows parts low high) = part_on a parts
child Low (node rows parts low high) = in_half low
child High (node rows parts low high) = in_half high

-- the node at the end of a path
abbrev pub walk : List Hop → Plain → Option Plain
walk [] n = Some n
walk (hop ∷ hops) n = option_and_then (walk hops) (child hop n)

-- the range of a node's child, from the range of the node
abbrev pub range_below : Attributes → Hop → NodeRange → NodeRange
range_below s (Part a) r = whole s a
range_below s Low r = lower r
range_below s High r = upper r

abbrev pub range_along : Attributes → List Hop → NodeRange → NodeRange
range_along s [] r = r
range_along s (hop ∷ hops) r = range_along s hops (range_below s hop r)

-- the attribute and the ends of a range
abbrev pub ends : NodeRange → Option (AttrNo × ℤ × ℤ)
ends r = option_map (λ (x : AttrNo × Range). (x.0, x.1.0, x.1.1)) r

-- the range of the node at the end of a path from the root; there is none where the node isn't there or has no range
abbrev pub range_at : Attributes → List Hop → Plain → Option (AttrNo × ℤ × ℤ)
range_at s hops n = option_and_then (λ m. ends (range_along s hops None)) (walk hops n)

-- a step leads to a part of the attribute
abbrev pub is_part_of : AttrNo → Hop → Bool
is_part_of a (Part b) = b.0 == a.0
is_part_of a Low = false
is_part_of a High = false

-- the attribute is used on a path from the root
abbrev pub is_used_on : List Hop → AttrNo → Bool
is_used_on hops a = list_any (is_part_of a) hops
