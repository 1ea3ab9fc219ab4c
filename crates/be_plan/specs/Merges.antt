-- Where a child may be merged.
use Rattle.std.specs.Prelude.{ℕ, ◌-◌, ◌==◌, Bool, true, false, not, List, length, nat_lt, nat_le, Option, Some, None, if◌then◌else◌}
use Rattle.std.specs.List.{list_all, list_any}
use Rattle.be_model.specs.declared.changes.Row.{Row}
use Rattle.be_base.specs.declared.names.AttrNo.{AttrNo}
use Rattle.be_base.specs.declared.limits.TheConstants.{MERGE_ROWS}
use Rattle.be_model.specs.declared.paths.Hop.{Hop}
use Rattle.be_model.specs.declared.paths.Hop.TheVariants.{Part, Low, High}
use Rattle.be_model.specs.Schemas.{Attributes}
use Rattle.be_shape.specs.Plain.{Plain, leaf_of}
use Rattle.be_shape.specs.Shape.{NodeRange}
use Rattle.be_shape.specs.Children.{children, may_pass}
use Rattle.be_shape.specs.Steps.{without_child}

-- the row may pass to another child of the node
abbrev pub passes_elsewhere : Attributes → Hop → NodeRange → Plain → Row → Bool
passes_elsewhere s hop r n row =
    list_any (λ (x : Hop × Plain). may_pass s x.0 r row) (children (without_child hop n))

abbrev pub all_stay : Attributes → Hop → NodeRange → Plain → List Row → Bool
all_stay s hop r n rows = list_all (λ row. not (passes_elsewhere s hop r n row)) rows

-- what is left of so much room after so many rows
abbrev pub left_after : ℕ → ℕ → Option ℕ
left_after room rows = if nat_le rows room then Some (room - rows) else None

-- the step leads to the part of the attribute
abbrev pub is_to : AttrNo → Hop → Bool
is_to a (Part b) = a.0 == b.0
is_to a Low = false
is_to a High = false

-- the step leads to this half
abbrev pub is_same : Hop → Hop → Bool
is_same Low Low = true
is_same High High = true
is_same half hop = false

-- the node has more rows in its own leaf than are merged
abbrev pub is_full : Plain → Bool
is_full n = nat_lt MERGE_ROWS (length (leaf_of n))

-- each of these is full, and each child of a node
abbrev pub all_full : List (Hop × Plain) → Bool
all_full xs = list_all (λ (x : Hop × Plain). is_full x.1) xs

abbrev pub are_full : Plain → Bool
are_full n = all_full (children n)
