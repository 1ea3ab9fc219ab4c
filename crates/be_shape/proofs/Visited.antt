-- The leaves that a search visits, by the children of a node.
use Rattle.std.proofs.Common.{◌≡◌, Bool, cond, List, [], ◌∷◌, ◌++◌, refl, sym, ap, ◌∙◌}
use Rattle.std.specs.List.{flat_map}
use Rattle.std.proofs.lemmas.List.{append-nil}
use Rattle.be_model.specs.declared.changes.Row.{Row}
use Rattle.be_model.specs.declared.paths.Hop.{Hop}
use Rattle.be_model.specs.declared.paths.Hop.TheVariants.{Part, Low, High}
use Rattle.be_model.specs.Schemas.{Attributes}
use Rattle.be_model.specs.Matching.{Assignments, is_assigned}
use Rattle.be_shape.specs.Plain.{Plain, node, Parts, no_part, part, Half, no_half, half, leaf_of}
use Rattle.be_shape.specs.Shape.{NodeRange, whole, lower, upper}
use Rattle.be_shape.specs.Paths.{range_below}
use Rattle.be_shape.specs.Children.{roots_of, root_of, children}
use Rattle.be_shape.specs.Search.{holds_value, visited, visited_in_parts, visited_in_half}
use Rattle.be_shape.proofs.Children.{over_children_is}

-- a search of a node enters the part of an attribute that the event assigns, and a half that holds one of its values
abbrev pub enters : Attributes → Assignments → NodeRange → Hop → Bool
enters s e r (Part a) = is_assigned e a
enters s e r Low = holds_value e (lower r)
enters s e r High = holds_value e (upper r)

-- the leaves that are visited at a child and below it
abbrev pub visited_of : Attributes → Assignments → NodeRange → Hop × Plain → List (List Row)
visited_of s e r x = cond (enters s e r x.0) (visited s e (range_below s x.0 r) x.1) []

of_roots : (s : Attributes) (e : Assignments) (r : NodeRange) (parts : Parts) → visited_in_parts s e parts ≡ flat_map (visited_of s e r) (roots_of parts)
of_roots s e r no_part = refl
of_roots s e r (part a root more) =
    ap (λ q. cond (is_assigned e a) (visited s e (whole s a) root) [] ++ q) (of_roots s e r more)

of_low : (s : Attributes) (e : Assignments) (r : NodeRange) (h : Half) → visited_in_half s e (lower r) h ≡ flat_map (visited_of s e r) (root_of Low h)
of_low s e r no_half = refl
of_low s e r (half n) = sym (append-nil (cond (holds_value e (lower r)) (visited s e (lower r) n) []))

of_high : (s : Attributes) (e : Assignments) (r : NodeRange) (h : Half) → visited_in_half s e (upper r) h ≡ flat_map (visited_of s e r) (root_of High h)
of_high s e r no_half = refl
of_high s e r (half n) = sym (append-nil (cond (holds_value e (upper r)) (visited s e (upper r) n) []))

-- the leaf of a node, and then those below its children
pub visited_is : (s : Attributes) (e : Assignments) (r : NodeRange) (n : Plain) → visited s e r n ≡ leaf_of n ∷ flat_map (visited_of s e r) (children n)
visited_is s e r (node rows parts low high) =
    let f = visited_of s e r in
    let b = visited_in_half s e (lower r) low in
    let c = visited_in_half s e (upper r) high in
    ap (λ q. rows ∷ q)
    (ap (λ q. q ++ b ++ c) (of_roots s e r parts) ∙ ap (λ q. flat_map f (roots_of parts) ++ q ++ c) (of_low s e r low) ∙ ap (λ q. flat_map f (roots_of parts) ++ flat_map f (root_of Low low) ++ q) (of_high s e r high)
    ∙ sym (over_children_is f rows parts low high))
