-- What a search for the rows that an event satisfies visits, tests and finds.
use Rattle.std.specs.Prelude.{ℕ, ℤ, Bool, false, List, [], ◌∷◌, ◌++◌, length, Option, Some, None, if◌then◌else◌}
use Rattle.be_model.specs.declared.changes.Row.{Row}
use Rattle.be_model.specs.Domains.{Range, is_some_within}
use Rattle.be_model.specs.Schemas.{Attributes}
use Rattle.be_model.specs.Matching.{Assignments, values_of, is_assigned}
use Rattle.be_shape.specs.Plain.{Plain, node, Parts, no_part, part, Half, no_half, half}
use Rattle.be_shape.specs.Shape.{NodeRange, whole, lower, upper}

abbrev pub values_inside : Range → Option (List ℤ) → Bool
values_inside r None = false
values_inside r (Some vs) = is_some_within r vs

-- a node's range holds at least one of the values that the event gives its attribute
abbrev pub holds_value : Assignments → NodeRange → Bool
holds_value e None = false
holds_value e (Some r) = values_inside r.1 (values_of e r.0)

-- The leaves of the visited nodes: of the node itself, of the root of each part whose attribute the event assigns,
-- and of each half that holds at least one of the event's values of its attribute, and so on below these.
abbrev mutual
  pub visited : Attributes → Assignments → NodeRange → Plain → List (List Row)
  visited s e r (node rows parts low high) =
      rows ∷ visited_in_parts s e parts ++ visited_in_half s e (lower r) low ++ visited_in_half s e (upper r) high

  pub visited_in_parts : Attributes → Assignments → Parts → List (List Row)
  visited_in_parts s e no_part = []
  visited_in_parts s e (part a root more) =
      (if is_assigned e a then visited s e (whole s a) root else []) ++ visited_in_parts s e more

  pub visited_in_half : Attributes → Assignments → NodeRange → Half → List (List Row)
  visited_in_half s e r no_half = []
  visited_in_half s e r (half n) = if holds_value e r then visited s e r n else []

abbrev pub all_of : List (List Row) → List Row
all_of [] = []
all_of (rows ∷ leaves) = rows ++ all_of leaves

-- how many nodes a search from the root visits
abbrev pub visits : Attributes → Assignments → Plain → ℕ
visits s e n = length (visited s e None n)

-- how many rows it tests
abbrev pub tested : Attributes → Assignments → Plain → ℕ
tested s e n = length (all_of (visited s e None n))
