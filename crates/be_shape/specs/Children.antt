-- The nodes right below a node.
use Rattle.std.specs.Prelude.{Bool, not, List, [], ◌∷◌, ◌++◌, nat_lt, if◌then◌else◌}
use Rattle.be_base.specs.declared.names.AttrNo.{AttrNo}
use Rattle.be_model.specs.declared.changes.Row.{Row}
use Rattle.be_model.specs.declared.paths.Hop.{Hop}
use Rattle.be_model.specs.declared.paths.Hop.TheVariants.{Part, Low, High}
use Rattle.be_model.specs.Schemas.{Attributes}
use Rattle.be_model.specs.Rows.{has}
use Rattle.be_shape.specs.Plain.{Plain, node, Parts, no_part, part, Half, no_half, half}
use Rattle.be_shape.specs.Shape.{NodeRange, lower, upper, Known, in_part, in_low, in_high, is_used, can_split, spans_inside}

abbrev pub roots_of : Parts → List (Hop × Plain)
roots_of no_part = []
roots_of (part a root more) = (Part a, root) ∷ roots_of more

abbrev pub root_of : Hop → Half → List (Hop × Plain)
root_of hop no_half = []
root_of hop (half n) = (hop, n) ∷ []

-- the steps down from a node, and where each leads: the parts by rising attribute, the low half, the high half
abbrev pub children : Plain → List (Hop × Plain)
children (node rows parts low high) = roots_of parts ++ root_of Low low ++ root_of High high

-- what is known at the end of a step
abbrev pub known_below : Attributes → Hop → Known → Known
known_below s (Part a) k = in_part s a k
known_below s Low k = in_low k
known_below s High k = in_high k

-- a step may be made below a node: no attribute is used twice on a path, and only a range of more than one value has halves
abbrev pub is_open : Hop → Known → Bool
is_open (Part a) k = not (is_used k.used a)
is_open Low k = can_split k.range
is_open High k = can_split k.range

-- a row may stand below a step: it has a predicate on the part's attribute, or has its span inside the half. Where there is no
-- range each row may
abbrev pub may_pass : Attributes → Hop → NodeRange → Row → Bool
may_pass s (Part a) r row = has a row
may_pass s Low r row = spans_inside s (lower r) row
may_pass s High r row = spans_inside s (upper r) row

-- parts with one more, before those of greater attributes
abbrev pub with_part : AttrNo → Plain → Parts → Parts
with_part a n no_part = part a n no_part
with_part a n (part b root more) =
    if nat_lt a.0 b.0 then part a n (part b root more) else part b root (with_part a n more)

-- a node with a child more
abbrev pub with_child : Hop → Plain → Plain → Plain
with_child (Part a) n (node rows parts low high) = node rows (with_part a n parts) low high
with_child Low n (node rows parts low high) = node rows parts (half n) high
with_child High n (node rows parts low high) = node rows parts low (half n)

-- a node with other rows in its leaf
abbrev pub with_leaf : List Row → Plain → Plain
with_leaf leaf (node rows parts low high) = node leaf parts low high
