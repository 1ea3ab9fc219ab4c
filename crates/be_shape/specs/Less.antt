-- A node with a row less below one of its children.
use Rattle.std.specs.Prelude.{◌≡◌, Bool, true, false, List, [], ◌∷◌, ◌++◌, IsPermutation, if◌then◌else◌}
use Rattle.std.specs.List.{list_all}
use Rattle.be_base.specs.declared.names.AttrNo.{AttrNo}
use Rattle.be_model.specs.declared.changes.Row.{Row}
use Rattle.be_model.specs.declared.paths.Hop.{Hop}
use Rattle.be_model.specs.Schemas.{Attributes}
use Rattle.be_shape.specs.Plain.{Plain, node, no_part, no_half, rows_below}
use Rattle.be_shape.specs.Shape.{NodeRange, known}
use Rattle.be_shape.specs.Children.{known_below, is_open, may_pass}
use Rattle.be_shape.specs.Right.{IsRight}

-- no rows, parts or halves
abbrev pub is_bare : Plain → Bool
is_bare (node [] no_part no_half no_half) = true
is_bare _ = false

-- a node stands right in a range, with some attributes used on the path to it
abbrev pub IsRightIn : Attributes → NodeRange → Plain → Type 0
IsRightIn s r n = (used : List AttrNo) × IsRight s (known r used) n

-- a child stands right below a node of a range: the step may be made, and each row may pass it
pub record IsRightBelow (s : Attributes) (r : NodeRange) (x : Hop × Plain) : Type 0 where
  pub used : List AttrNo
  pub is_open : is_open x.0 (known r used) ≡ true
  pub right : IsRight s (known_below s x.0 (known r used)) x.1
  pub pass : list_all (may_pass s x.0 r) (rows_below x.1) ≡ true

-- a child, which isn't kept where it is bare
abbrev pub kept : Hop → Plain → List (Hop × Plain)
kept hop n = if is_bare n then [] else (hop, n) ∷ []

-- one of the children has the row less, and is dropped where it is bare; it is right wherever it was
pub record IsLess (s : Attributes) (r : NodeRange) (row : Row) (xs ys : List (Hop × Plain)) : Type 0 where
  pub hop : Hop
  pub old : Plain
  pub new : Plain
  pub before : List (Hop × Plain)
  pub after : List (Hop × Plain)
  pub was : xs ≡ before ++ (hop, old) ∷ after
  pub is : ys ≡ before ++ kept hop new ++ after
  pub gone : IsPermutation (rows_below old) (row ∷ rows_below new)
  pub right : (used : List AttrNo) → IsRight s (known_below s hop (known r used)) old → IsRight s (known_below s hop (known r used)) new
