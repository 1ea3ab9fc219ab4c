-- All nodes of a tree, in order, each with its path.
use Rattle.std.specs.Prelude.{◌≡◌, ◌&&◌, Bool, true, List, [], ◌∷◌, ◌++◌, Some}
use Rattle.std.specs.List.{list_all, All, Contains}
use Rattle.be_model.specs.declared.paths.Hop.{Hop}
use Rattle.be_model.specs.declared.paths.Hop.TheVariants.{Part, Low, High}
use Rattle.be_model.specs.Schemas.{Attributes}
use Rattle.be_shape.specs.Plain.{Plain, node, Parts, no_part, part, Half, no_half, half}
use Rattle.be_shape.specs.Shape.{Known, nothing, in_part, in_low, in_high, everywhere}
use Rattle.be_shape.specs.Paths.{walk}
use Rattle.be_shape.specs.Children.{known_below, is_open}

-- a node, the path to it, and what the path says of it
pub record NodeAt : Type 0 where
  pub path : List Hop
  pub known : Known
  pub here : Plain

abbrev pub node_at : List Hop → Known → Plain → NodeAt
node_at path k n = record { path = path; known = k; here = n }

-- a node, then the nodes below its parts by rising attribute, then those of its low half, then those of its high half
abbrev mutual
  pub nodes_from : Attributes → List Hop → Known → Plain → List NodeAt
  nodes_from s path k (node rows parts low high) =
      node_at path k (node rows parts low high) ∷ nodes_in_parts s path k parts
      ++ nodes_in_half s (path ++ Low ∷ []) (in_low k) low ++ nodes_in_half s (path ++ High ∷ []) (in_high k) high

  pub nodes_in_parts : Attributes → List Hop → Known → Parts → List NodeAt
  nodes_in_parts s path k no_part = []
  nodes_in_parts s path k (part a root more) =
      nodes_from s (path ++ Part a ∷ []) (in_part s a k) root ++ nodes_in_parts s path k more

  pub nodes_in_half : Attributes → List Hop → Known → Half → List NodeAt
  nodes_in_half s path k no_half = []
  nodes_in_half s path k (half n) = nodes_from s path k n

-- all nodes of a tree, from its root
abbrev pub nodes : Attributes → Plain → List NodeAt
nodes s n = nodes_from s [] nothing n

-- what is known at the end of a path
abbrev pub known_along : Attributes → List Hop → Known → Known
known_along s [] k = k
known_along s (hop ∷ hops) k = known_along s hops (known_below s hop k)

-- each step of a path may be made
abbrev pub are_open : Attributes → List Hop → Known → Bool
are_open s [] k = true
are_open s (hop ∷ hops) k = is_open hop k && are_open s hops (known_below s hop k)

-- a test holds everywhere exactly where it holds of each node in the list
abbrev pub HoldsAtNodes : Attributes → Plain → Type 0
HoldsAtNodes s n =
    (test : Known → Plain → Bool) → everywhere test s nothing n ≡ list_all (λ (x : NodeAt). test x.known x.here) (nodes s n)

-- the path of each node leads to it, and what is known along it is known of the node
abbrev pub PathsLead : Attributes → Plain → Type 0
PathsLead s n =
    All (λ (x : NodeAt). (walk x.path n ≡ Some x.here) × (known_along s x.path nothing ≡ x.known)) (nodes s n)

-- the list is complete: each node that a path leads to is in it, with the path and what is known along it
abbrev pub NodesAreListed : Attributes → Plain → Type 0
NodesAreListed s n =
    (path : List Hop) (m : Plain) → walk path n ≡ Some m → Contains (nodes s n) (node_at path (known_along s path nothing) m)
