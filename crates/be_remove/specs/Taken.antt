-- What stands after a row was taken out.
use Rattle.std.specs.Prelude.{ℕ, zero, suc, ◌==◌, ◌&&◌, Bool, false, not, List, Option, Some, None, if◌then◌else◌}
use Rattle.std.specs.List.{list_any, Contains}
use Rattle.be_base.specs.declared.names.AttrNo.{AttrNo}
use Rattle.be_model.specs.declared.changes.Row.{Row}
use Rattle.be_model.specs.declared.paths.Hop.{Hop}
use Rattle.be_model.specs.Schemas.{Attributes}
use Rattle.be_shape.specs.Plain.{Plain, Parts, no_part, part, Half, no_half, half, rows_below}
use Rattle.be_shape.specs.Shape.{NodeRange}
use Rattle.be_shape.specs.Children.{children, may_pass}
use Rattle.be_shape.specs.Paths.{part_on, child}
use Rattle.be_shape.specs.Steps.{rows_of_node, without_child}
use Rattle.be_shape.specs.Less.{is_bare}

-- the row may pass to one of the node's children
abbrev pub has_way : Attributes → NodeRange → Plain → Row → Bool
has_way s r n row = list_any (λ (x : Hop × Plain). may_pass s x.0 r row) (children n)

-- no leaf has the row
abbrev pub Lacks : Row → Plain → Type 0
Lacks row n = Contains (rows_below n) row → ⊥

-- a half that isn't kept where it is bare
abbrev pub kept_half : Half → Half
kept_half no_half = no_half
kept_half (half n) = if is_bare n then no_half else half n

-- parts of which that at a place isn't kept where it is bare
abbrev pub kept_part : ℕ → Parts → Parts
kept_part i no_part = no_part
kept_part zero (part a root more) = if is_bare root then more else part a root more
kept_part (suc i) (part a root more) = part a root (kept_part i more)

-- the part of the attribute stands at this place, and none before
abbrev pub is_first : AttrNo → ℕ → Parts → Bool
is_first a i no_part = false
is_first a zero (part b root more) = b.0 == a.0
is_first a (suc i) (part b root more) = not (b.0 == a.0) && is_first a i more

-- the rows below the part of an attribute
abbrev pub rows_on : AttrNo → Parts → List Row
rows_on a parts = rows_of_node (part_on a parts)

abbrev pub is_bare_child : Option Plain → Bool
is_bare_child None = false
is_bare_child (Some n) = is_bare n

-- a node without the child at the end of a step, where that is bare
abbrev pub without_bare : Hop → Plain → Plain
without_bare hop n = if is_bare_child (child hop n) then without_child hop n else n
