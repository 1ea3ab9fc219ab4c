-- All nodes of a tree: what holds everywhere holds of each, and the path of each leads to it.
use Rattle.std.proofs.Common.{◌≡◌, ◌<◌, ◌≤◌, ◌+◌, ℕ, Bool, true, cond, ltb, ◌&&◌, List, [], ◌∷◌, ◌++◌, Option, Some, None, option_and_then, refl, sym, ap, ◌∙◌, subst, arith}
use Rattle.std.specs.List.{list_all, flat_map, AllByRecursion, Contains}
use Rattle.std.proofs.lemmas.Bool.{and_parts, ltb-true, eq-eqb, ne_eqb}
use Rattle.std.proofs.lemmas.List.{append_assoc, append-nil}
use Rattle.std.proofs.lemmas.List.Elements.{All-from_recursion, Contains-append_left, Contains-append_right}
use Rattle.std.proofs.lemmas.List.Folds.{list_all-append}
use Rattle.be_base.specs.declared.names.AttrNo.{AttrNo}
use Rattle.be_model.specs.declared.changes.Row.{Row}
use Rattle.be_model.specs.declared.paths.Hop.{Hop}
use Rattle.be_model.specs.declared.paths.Hop.TheVariants.{Part, Low, High}
use Rattle.be_model.specs.Schemas.{Attributes}
use Rattle.be_model.specs.Forms.{attrs_rise}
use Rattle.be_shape.specs.Plain.{Plain, node, Parts, no_part, part, Half, no_half, half, parts_under}
use Rattle.be_shape.specs.Shape.{Known, nothing, in_part, in_low, in_high, everywhere, is_placed_at, attrs_of}
use Rattle.be_shape.specs.Paths.{part_on, child, walk}
use Rattle.be_shape.specs.Children.{roots_of, root_of, children, known_below}
use Rattle.be_shape.specs.NodeList.{NodeAt, node_at, nodes_from, nodes_in_parts, nodes_in_half, nodes, known_along, HoldsAtNodes, PathsLead, NodesAreListed}
use Rattle.be_shape.proofs.Children.{Each-append, Each-weaker, in_trees, where_known, below, everywhere_is, over_children_is}
use Rattle.be_shape.proofs.Placed.{placed, at_child}

-- the nodes below a child
abbrev pub nodes_of : Attributes → List Hop → Known → Hop × Plain → List NodeAt
nodes_of s path k x = nodes_from s (path ++ x.0 ∷ []) (known_below s x.0 k) x.1

of_roots : (s : Attributes) (path : List Hop) (k : Known) (parts : Parts) → nodes_in_parts s path k parts ≡ flat_map (nodes_of s path k) (roots_of parts)
of_roots s path k no_part = refl
of_roots s path k (part a root more) =
    ap (λ q. nodes_from s (path ++ Part a ∷ []) (in_part s a k) root ++ q) (of_roots s path k more)

of_low : (s : Attributes) (path : List Hop) (k : Known) (h : Half) → nodes_in_half s (path ++ Low ∷ []) (in_low k) h ≡ flat_map (nodes_of s path k) (root_of Low h)
of_low s path k no_half = refl
of_low s path k (half n) = sym (append-nil (nodes_from s (path ++ Low ∷ []) (in_low k) n))

of_high : (s : Attributes) (path : List Hop) (k : Known) (h : Half) → nodes_in_half s (path ++ High ∷ []) (in_high k) h ≡ flat_map (nodes_of s path k) (root_of High h)
of_high s path k no_half = refl
of_high s path k (half n) = sym (append-nil (nodes_from s (path ++ High ∷ []) (in_high k) n))

-- a node, and then those below its children
pub nodes_are : (s : Attributes) (path : List Hop) (k : Known) (n : Plain) → nodes_from s path k n ≡ node_at path k n ∷ flat_map (nodes_of s path k) (children n)
nodes_are s path k (node rows parts low high) =
    let f = nodes_of s path k in
    let b = nodes_in_half s (path ++ Low ∷ []) (in_low k) low in
    let c = nodes_in_half s (path ++ High ∷ []) (in_high k) high in
    ap (λ q. node_at path k (node rows parts low high) ∷ q)
    (ap (λ q. q ++ b ++ c) (of_roots s path k parts) ∙ ap (λ q. flat_map f (roots_of parts) ++ q ++ c) (of_low s path k low) ∙ ap (λ q. flat_map f (roots_of parts) ++ flat_map f (root_of Low low) ++ q) (of_high s path k high)
    ∙ sym (over_children_is f rows parts low high))

-- a test of each element of joined lists
all_joined : {X Y : Type 0} (q : Y → Bool) (f : X → List Y) (p : X → Bool) (xs : List X) → AllByRecursion (λ x. p x ≡ list_all q (f x)) xs → list_all p xs ≡ list_all q (flat_map f xs)
all_joined q f p [] h = refl
all_joined q f p (x ∷ xs) h =
    ap (λ b. b && list_all p xs) h.0 ∙ ap (λ b. list_all q (f x) && b) (all_joined q f p xs h.1) ∙ sym (list_all-append q (f x) (flat_map f xs))

pub each_joined : {X Y : Type 0} (P : Y → Type 0) (f : X → List Y) (xs : List X) → AllByRecursion (λ x. AllByRecursion P (f x)) xs → AllByRecursion P (flat_map f xs)
each_joined P f [] h = tt
each_joined P f (x ∷ xs) h = Each-append P (f x) (flat_map f xs) h.0 (each_joined P f xs h.1)

abbrev tested : (Known → Plain → Bool) → NodeAt → Bool
tested c x = c x.known x.here

pub holds_at_nodes : (c : Known → Plain → Bool) (s : Attributes) (n : Plain) (path : List Hop) (k : Known) → everywhere c s k n ≡ list_all (λ (x : NodeAt). c x.known x.here) (nodes_from s path k n)
holds_at_nodes c s =
    in_trees (λ m. (path : List Hop) (k : Known) → everywhere c s k m ≡ list_all (tested c) (nodes_from s path k m))
    (λ m claims path k. everywhere_is c s k m
    ∙ ap (λ b. c k m && b) (all_joined (tested c) (nodes_of s path k) (below c s k) (children m) (Each-weaker (λ (x : Hop × Plain). (p : List Hop) (j : Known) → everywhere c s j x.1 ≡ list_all (tested c) (nodes_from s p j x.1)) (λ (x : Hop × Plain). below c s k x ≡ list_all (tested c) (nodes_of s path k x)) (λ x claim. claim (path ++ x.0 ∷ []) (known_below s x.0 k)) (children m) claims))
    ∙ ap (list_all (tested c)) (sym (nodes_are s path k m)))

pub at_nodes : (s : Attributes) (n : Plain) → HoldsAtNodes s n
at_nodes s n c = holds_at_nodes c s n [] nothing

-- attributes that rise from a number on
abbrev pub RisesFrom : ℕ → List AttrNo → Type 0
RisesFrom n [] = Unit {0}
RisesFrom n (a ∷ as') = (n ≤ a.0) × RisesFrom (a.0 + 1) as'

pub rises_after : (a : AttrNo) (more : List AttrNo) → attrs_rise (a ∷ more) ≡ true → RisesFrom (a.0 + 1) more
rises_after a [] h = tt
rises_after a (b ∷ more) h =
    let k = and_parts (ltb a.0 b.0) (attrs_rise (b ∷ more)) h in
    let l : a.0 < b.0 = ltb-true a.0 b.0 k.0 in (omega arith, rises_after b more k.1)

pub rises_from : (attrs : List AttrNo) → attrs_rise attrs ≡ true → RisesFrom 0 attrs
rises_from [] h = tt
rises_from (a ∷ more) h = (omega arith, rises_after a more h)

-- each child is where its step leads
record IsPart (n : ℕ) (parts : Parts) (x : Hop × Plain) : Type 0 where
  attr : AttrNo
  step : x.0 ≡ Part attr
  above : n ≤ attr.0
  there : part_on attr parts ≡ Some x.1

later : (n : ℕ) (b : AttrNo) (root : Plain) (more : Parts) (x : Hop × Plain) → n ≤ b.0 → IsPart (b.0 + 1) more x → IsPart n (part b root more) x
later n b root more x l p =
    let differ : b.0 ≡ p.attr.0 → ⊥ = λ e. let h = p.above in omega arith in
    record {
      attr = p.attr;
      step = p.step;
      above = let h = p.above in omega arith;
      there = ap (λ t. cond t (Some root) (part_on p.attr more)) (ne_eqb b.0 p.attr.0 differ) ∙ p.there;
    }

are_parts : (n : ℕ) (parts : Parts) → RisesFrom n (attrs_of parts) → AllByRecursion (IsPart n parts) (roots_of parts)
are_parts n no_part h = tt
are_parts n (part a root more) h = (
  record {
    attr = a;
    step = refl;
    above = h.0;
    there = ap (λ t. cond t (Some root) (part_on a more)) (eq-eqb a.0 a.0 refl);
  },
  Each-weaker (IsPart (a.0 + 1) more) (IsPart n (part a root more)) (λ x p. later n a root more x h.0 p) (roots_of more) (are_parts (a.0 + 1) more h.1),
)

abbrev IsThere : Plain → Hop × Plain → Type 0
IsThere n x = child x.0 n ≡ Some x.1

low_there : (rows : List Row) (parts : Parts) (low high : Half) → AllByRecursion (IsThere (node rows parts low high)) (root_of Low low)
low_there rows parts no_half high = tt
low_there rows parts (half n) high = (refl, tt)

high_there : (rows : List Row) (parts : Parts) (low high : Half) → AllByRecursion (IsThere (node rows parts low high)) (root_of High high)
high_there rows parts low no_half = tt
high_there rows parts low (half n) = (refl, tt)

pub children_there : (n : Plain) → attrs_rise (attrs_of (parts_under n)) ≡ true → AllByRecursion (λ (x : Hop × Plain). child x.0 n ≡ Some x.1) (children n)
children_there (node rows parts low high) h =
    let n = node rows parts low high in
    Each-append (IsThere n) (roots_of parts ++ root_of Low low) (root_of High high)
    (Each-append (IsThere n) (roots_of parts) (root_of Low low)
    (Each-weaker (IsPart 0 parts) (IsThere n) (λ x p. ap (λ hop. child hop n) p.step ∙ p.there) (roots_of parts) (are_parts 0 parts (rises_from (attrs_of parts) h))) (low_there rows parts low high))
    (high_there rows parts low high)

-- a node in the list of those below another is at the end of its path
record Leads (s : Attributes) (path : List Hop) (k : Known) (n : Plain) (x : NodeAt) : Type 0 where
  rest : List Hop
  is : x.path ≡ path ++ rest
  walks : walk rest n ≡ Some x.here
  knows : known_along s rest k ≡ x.known

leads_on : (s : Attributes) (path : List Hop) (k : Known) (n m : Plain) (hop : Hop) → child hop n ≡ Some m → (x : NodeAt) → Leads s (path ++ hop ∷ []) (known_below s hop k) m x → Leads s path k n x
leads_on s path k n m hop there x l =
    record {
      rest = hop ∷ l.rest;
      is = l.is ∙ append_assoc path (hop ∷ []) l.rest;
      walks = ap (option_and_then (walk l.rest)) there ∙ l.walks;
      knows = l.knows;
    }

all_lead : (s : Attributes) (k : Known) (n : Plain) → everywhere (is_placed_at s) s k n ≡ true → (path : List Hop) → AllByRecursion (Leads s path k n) (nodes_from s path k n)
all_lead s =
    where_known (is_placed_at s) s (λ k n. (path : List Hop) → AllByRecursion (Leads s path k n) (nodes_from s path k n))
    (λ k n l claims path. subst (AllByRecursion (Leads s path k n)) (sym (nodes_are s path k n)) (
      record { rest = []; is = sym (append-nil path); walks = refl; knows = refl },
      each_joined (Leads s path k n) (nodes_of s path k) (children n) (below_lead k n path (children n) (children_there n (placed s k n l).rise) claims),
    ))
  where
    below_lead : (k : Known) (n : Plain) (path : List Hop) (xs : List (Hop × Plain)) → AllByRecursion (λ (x : Hop × Plain). child x.0 n ≡ Some x.1) xs
        → AllByRecursion (λ (x : Hop × Plain). (p : List Hop) → AllByRecursion (Leads s p (known_below s x.0 k) x.1) (nodes_from s p (known_below s x.0 k) x.1)) xs
        → AllByRecursion (λ (x : Hop × Plain). AllByRecursion (Leads s path k n) (nodes_of s path k x)) xs
    below_lead k n path [] a b = tt
    below_lead k n path (x ∷ xs) a b = (
      Each-weaker (Leads s (path ++ x.0 ∷ []) (known_below s x.0 k) x.1) (Leads s path k n) (leads_on s path k n x.1 x.0 a.0) (nodes_of s path k x) (b.0 (path ++ x.0 ∷ [])),
      below_lead k n path xs a.1 b.1,
    )

pub paths_lead : (s : Attributes) (n : Plain) → everywhere (is_placed_at s) s nothing n ≡ true → PathsLead s n
paths_lead s n h =
    All-from_recursion (λ (x : NodeAt). (walk x.path n ≡ Some x.here) × (known_along s x.path nothing ≡ x.known)) (nodes s n)
    (Each-weaker (Leads s [] nothing n) (λ (x : NodeAt). (walk x.path n ≡ Some x.here) × (known_along s x.path nothing ≡ x.known)) (λ x l. (ap (λ p. walk p n) l.is ∙ l.walks, ap (λ p. known_along s p nothing) l.is ∙ l.knows)) (nodes s n) (all_lead s nothing n h []))

-- what a list for an element contains, the lists for all contain
abbrev Brings : {X Y : Type 0} → (X → List Y) → List Y → X → Type 0
Brings f ys x = (y : _) → Contains (f x) y → Contains ys y

each_brings : {X Y : Type 0} (f : X → List Y) (xs : List X) → AllByRecursion (Brings f (flat_map f xs)) xs
each_brings f [] = tt
each_brings f (x ∷ xs) = (
  λ y h. Contains-append_left (f x) (flat_map f xs) y h,
  Each-weaker (Brings f (flat_map f xs)) (Brings f (f x ++ flat_map f xs)) (λ z g y h. Contains-append_right (f x) (flat_map f xs) y (g y h)) xs (each_brings f xs),
)

-- the node at the end of steps from a node is among those from it
pub listed_from : (s : Attributes) (hops : List Hop) (n m : Plain) (path : List Hop) (k : Known) → walk hops n ≡ Some m
    → Contains (nodes_from s path k n) (node_at (path ++ hops) (known_along s hops k) m)
listed_from s [] n m path k h =
    let same : n ≡ m = cc in
    subst (λ p. Contains (nodes_from s path k n) (node_at p k m)) (sym (append-nil path))
    (subst (λ x. Contains (nodes_from s path k n) (node_at path k x)) same (subst (λ l. Contains l (node_at path k n)) (sym (nodes_are s path k n)) (0, omega arith, refl)))
listed_from s (hop ∷ hops) n m path k h =
    by_child (child hop n) refl h (λ c w. listed_from s hops c m (path ++ hop ∷ []) (known_below s hop k) w)
  where
    by_child : (o : Option Plain) → child hop n ≡ o → option_and_then (walk hops) o ≡ Some m
        → ((c : Plain) → walk hops c ≡ Some m → Contains (nodes_from s (path ++ hop ∷ []) (known_below s hop k) c) (node_at ((path ++ hop ∷ []) ++ hops) (known_along s hops (known_below s hop k)) m))
        → Contains (nodes_from s path k n) (node_at (path ++ hop ∷ hops) (known_along s hops (known_below s hop k)) m)
    by_child None e w on = absurd (cc)
    by_child (Some c) e w on =
        let f = nodes_of s path k in
        let x = node_at (path ++ hop ∷ hops) (known_along s hops (known_below s hop k)) m in
        let below : Contains (f (hop, c)) x =
        subst (λ p. Contains (f (hop, c)) (node_at p (known_along s hops (known_below s hop k)) m)) (append_assoc path (hop ∷ []) hops) (on c w) in
        subst (λ l. Contains l x) (sym (nodes_are s path k n))
        (Contains-append_right (node_at path k n ∷ []) (flat_map f (children n)) x (at_child (Brings f (flat_map f (children n))) hop n c e (each_brings f (children n)) x below))

pub are_listed : (s : Attributes) (n : Plain) → NodesAreListed s n
are_listed s n path m h = listed_from s path n m [] nothing h
