-- Whether the rows of a node have room in the leaf above it.
use Rattle.std.specs.Prelude.{ℕ, ◌-◌, ◌+◌, ◌≤◌, ◌==◌, ◌&&◌, ◌||◌, Bool, true, false, not, List, [], length, nat_le, Option, None, Some, if◌then◌else◌}
use Rattle.std.specs.List.{list_any, list_all}
use Rattle.be_base.specs.declared.limits.TheConstants.{LEAF_ROWS}
use Rattle.be_base.specs.declared.names.AttrNo.{AttrNo}
use Rattle.be_model.specs.declared.changes.Row.{Row}
use Rattle.be_model.specs.declared.paths.Hop.{Hop}
use Rattle.be_model.specs.declared.paths.Hop.TheVariants.{Part, Low, High}
use Rattle.be_model.specs.Schemas.{Attributes}
use Rattle.be_model.specs.Rows.{has}
use Rattle.be_shape.specs.Plain.{Plain, node, leaf_of}
use Rattle.be_shape.specs.Shape.{NodeRange, known, lower, upper, fits_half, attrs_of}
use Rattle.be_shape.specs.Paths.{child}
use Rattle.be_shape.specs.Children.{children, may_pass}
use Rattle.be_shape.specs.Steps.{without_child, rows_of_node}

-- the step leads to the part of the attribute
abbrev pub leads_to : Hop → AttrNo → Bool
leads_to (Part a) b = b.0 == a.0
leads_to Low b = false
leads_to High b = false

abbrev pub is_low : Hop → Bool
is_low (Part a) = false
is_low Low = true
is_low High = false

abbrev pub is_high : Hop → Bool
is_high (Part a) = false
is_high Low = false
is_high High = true

-- the row may pass to no child of the node but that at the end of the step
abbrev pub stays : Attributes → Hop → NodeRange → Plain → Row → Bool
stays s hop r n row = not (list_any (λ (x : Hop × Plain). may_pass s x.0 r row) (children (without_child hop n)))

-- how many places are left when rows that pass a test take theirs; none where one doesn't pass, or they are more
abbrev pub fit : (Row → Bool) → ℕ → List Row → Option ℕ
fit p most rows = if list_all p rows && nat_le (length rows) most then Some (most - length rows) else None

-- the child is there, and its rows have room in the leaf
abbrev pub HasRows : Hop → Plain → Option Plain → Type 0
HasRows hop n None = ⊥
HasRows hop n (Some m) = length (leaf_of n) + length (rows_of_node (Some m)) ≤ LEAF_ROWS

abbrev pub MayMerge : Hop → Option Plain → Type 0
MayMerge hop None = ⊥
MayMerge hop (Some n) = HasRows hop n (child hop n)

-- the row may pass to another child than that at the end of the step, child by child
abbrev pub passes_others : Attributes → Hop → NodeRange → Plain → Row → Bool
passes_others s hop r (node rows parts low high) row =
    list_any (λ a. not (leads_to hop a) && has a row) (attrs_of parts) || (not (is_low hop) && fits_half s (known (lower r) []) low row)
    || (not (is_high hop) && fits_half s (known (upper r) []) high row)
