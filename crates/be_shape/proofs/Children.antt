-- A node and the nodes right below it: what is recursive over parts and halves, said once over the list of children,
-- and the induction over trees.
use Rattle.std.proofs.Common.{◌≡◌, Bool, true, false, ◌&&◌, List, [], ◌∷◌, ◌++◌, refl, sym, ap, ◌∙◌}
use Rattle.std.specs.List.{list_all, flat_map, AllByRecursion}
use Rattle.std.proofs.lemmas.Bool.{and_parts, and_from}
use Rattle.std.proofs.lemmas.List.{append_assoc, append-nil}
use Rattle.std.proofs.lemmas.List.Concat.{flat_map-append}
use Rattle.std.proofs.lemmas.List.Folds.{list_all-append}
use Rattle.be_model.specs.declared.changes.Row.{Row}
use Rattle.be_model.specs.declared.paths.Hop.{Hop}
use Rattle.be_model.specs.declared.paths.Hop.TheVariants.{Low, High}
use Rattle.be_model.specs.Schemas.{Attributes}
use Rattle.be_shape.specs.Plain.{Plain, node, Parts, no_part, part, Half, no_half, half, rows_below, rows_in_parts, rows_in_half, leaf_of}
use Rattle.be_shape.specs.Shape.{Known, in_part, in_low, in_high, everywhere, in_all_parts, in_a_half}
use Rattle.be_shape.specs.Children.{roots_of, root_of, children, known_below}

pub Each-append : {X : Type 0} (P : X → Type 0) (xs ys : List X) → AllByRecursion P xs → AllByRecursion P ys → AllByRecursion P (xs ++ ys)
Each-append P [] ys a b = b
Each-append P (x ∷ xs) ys a b = (a.0, Each-append P xs ys a.1 b)

pub Each-parts : {X : Type 0} (P : X → Type 0) (xs ys : List X) → AllByRecursion P (xs ++ ys) → AllByRecursion P xs × AllByRecursion P ys
Each-parts P [] ys h = (tt, h)
Each-parts P (x ∷ xs) ys h = let k = Each-parts P xs ys h.1 in ((h.0, k.0), k.1)

pub Each-from_test : {X : Type 0} (p : X → Bool) (xs : List X) → list_all p xs ≡ true → AllByRecursion (λ x. p x ≡ true) xs
Each-from_test p [] h = tt
Each-from_test p (x ∷ xs) h =
    let k = and_parts (p x) (list_all p xs) h in (k.0, Each-from_test p xs k.1)

pub test_from_Each : {X : Type 0} (p : X → Bool) (xs : List X) → AllByRecursion (λ x. p x ≡ true) xs → list_all p xs ≡ true
test_from_Each p [] h = refl
test_from_Each p (x ∷ xs) h = and_from (p x) (list_all p xs) h.0 (test_from_Each p xs h.1)

pub Each-weaker : {X : Type 0} (P Q : X → Type 0) → ((x : X) → P x → Q x) → (xs : List X) → AllByRecursion P xs → AllByRecursion Q xs
Each-weaker P Q f [] h = tt
Each-weaker P Q f (x ∷ xs) h = (f x h.0, Each-weaker P Q f xs h.1)

-- what holds of a node where it holds of its children, holds of each
mutual
  pub in_trees : (P : Plain → Type 0) → ((n : Plain) → AllByRecursion (λ (x : Hop × Plain). P x.1) (children n) → P n) → (n : Plain) → P n
  in_trees P step (node rows parts low high) =
      step (node rows parts low high)
      (Each-append (λ (x : Hop × Plain). P x.1) (roots_of parts ++ root_of Low low) (root_of High high)
      (Each-append (λ (x : Hop × Plain). P x.1) (roots_of parts) (root_of Low low) (in_roots P step parts) (in_root P step Low low)) (in_root P step High high))

  in_roots : (P : Plain → Type 0) → ((n : Plain) → AllByRecursion (λ (x : Hop × Plain). P x.1) (children n) → P n) → (parts : Parts) → AllByRecursion (λ (x : Hop × Plain). P x.1) (roots_of parts)
  in_roots P step no_part = tt
  in_roots P step (part a root more) = (in_trees P step root, in_roots P step more)

  in_root : (P : Plain → Type 0) → ((n : Plain) → AllByRecursion (λ (x : Hop × Plain). P x.1) (children n) → P n) → (hop : Hop) (h : Half) → AllByRecursion (λ (x : Hop × Plain). P x.1) (root_of hop h)
  in_root P step hop no_half = tt
  in_root P step hop (half n) = (in_trees P step n, tt)

-- what a function says of each child, joined
abbrev pub over_children : {X : Type 0} → (Hop × Plain → List X) → Parts → Half → Half → List X
over_children f parts low high =
    flat_map f (roots_of parts) ++ flat_map f (root_of Low low) ++ flat_map f (root_of High high)

pub over_children_is : {X : Type 0} (f : Hop × Plain → List X) (rows : List Row) (parts : Parts) (low high : Half) → flat_map f (children (node rows parts low high)) ≡ over_children f parts low high
over_children_is f rows parts low high =
    flat_map-append f (roots_of parts ++ root_of Low low) (root_of High high) ∙ ap (λ q. q ++ flat_map f (root_of High high)) (flat_map-append f (roots_of parts) (root_of Low low))

-- the rows below a node: those of its leaf, and those below its children
abbrev pub rows_of : Hop × Plain → List Row
rows_of x = rows_below x.1

rows_of_roots : (parts : Parts) → rows_in_parts parts ≡ flat_map rows_of (roots_of parts)
rows_of_roots no_part = refl
rows_of_roots (part a root more) = ap (λ q. rows_below root ++ q) (rows_of_roots more)

rows_of_root : (hop : Hop) (h : Half) → rows_in_half h ≡ flat_map rows_of (root_of hop h)
rows_of_root hop no_half = refl
rows_of_root hop (half n) = sym (append-nil (rows_below n))

four_lists : {X : Type 0} (a b c d : List X) → a ++ b ++ c ++ d ≡ a ++ (b ++ c ++ d)
four_lists a b c d = ap (λ q. q ++ d) (append_assoc a b c) ∙ append_assoc a (b ++ c) d

pub rows_are : (n : Plain) → rows_below n ≡ leaf_of n ++ flat_map rows_of (children n)
rows_are (node rows parts low high) =
    four_lists rows (rows_in_parts parts) (rows_in_half low) (rows_in_half high)
    ∙ ap (λ q. rows ++ (q ++ rows_in_half low ++ rows_in_half high)) (rows_of_roots parts)
    ∙ ap (λ q. rows ++ (flat_map rows_of (roots_of parts) ++ q ++ rows_in_half high)) (rows_of_root Low low)
    ∙ ap (λ q. rows ++ (flat_map rows_of (roots_of parts) ++ flat_map rows_of (root_of Low low) ++ q)) (rows_of_root High high)
    ∙ ap (λ q. rows ++ q) (sym (over_children_is rows_of rows parts low high))

-- a test of each node below: of this node, and of each below its children
abbrev pub below : (Known → Plain → Bool) → Attributes → Known → Hop × Plain → Bool
below c s k x = everywhere c s (known_below s x.0 k) x.1

below_roots : (c : Known → Plain → Bool) (s : Attributes) (k : Known) (parts : Parts) → in_all_parts c s k parts ≡ list_all (below c s k) (roots_of parts)
below_roots c s k no_part = refl
below_roots c s k (part a root more) = ap (λ b. everywhere c s (in_part s a k) root && b) (below_roots c s k more)

and_true : (b : Bool) → (b && true) ≡ b
and_true true = refl
and_true false = refl

below_low : (c : Known → Plain → Bool) (s : Attributes) (k : Known) (h : Half) → in_a_half c s (in_low k) h ≡ list_all (below c s k) (root_of Low h)
below_low c s k no_half = refl
below_low c s k (half n) = sym (and_true (everywhere c s (in_low k) n))

below_high : (c : Known → Plain → Bool) (s : Attributes) (k : Known) (h : Half) → in_a_half c s (in_high k) h ≡ list_all (below c s k) (root_of High h)
below_high c s k no_half = refl
below_high c s k (half n) = sym (and_true (everywhere c s (in_high k) n))

four_tests : (a b c d : Bool) → (a && b && c && d) ≡ (a && (b && c && d))
four_tests true b c d = refl
four_tests false b c d = refl

pub everywhere_is : (c : Known → Plain → Bool) (s : Attributes) (k : Known) (n : Plain) → everywhere c s k n ≡ (c k n && list_all (below c s k) (children n))
everywhere_is c s k (node rows parts low high) =
    let here = c k (node rows parts low high) in
    let p = below c s k in
    four_tests here (in_all_parts c s k parts) (in_a_half c s (in_low k) low) (in_a_half c s (in_high k) high)
    ∙ ap (λ b. here && (b && in_a_half c s (in_low k) low && in_a_half c s (in_high k) high)) (below_roots c s k parts)
    ∙ ap (λ b. here && (list_all p (roots_of parts) && b && in_a_half c s (in_high k) high)) (below_low c s k low)
    ∙ ap (λ b. here && (list_all p (roots_of parts) && list_all p (root_of Low low) && b)) (below_high c s k high)
    ∙ ap (λ b. here && b) (sym (list_all-append p (roots_of parts ++ root_of Low low) (root_of High high) ∙ ap (λ b. b && list_all p (root_of High high)) (list_all-append p (roots_of parts) (root_of Low low))))

-- what a test of each node says of this one, and of its children
pub record Levels (c : Known → Plain → Bool) (s : Attributes) (k : Known) (n : Plain) : Type 0 where
  pub here : c k n ≡ true
  pub children : AllByRecursion (λ (x : Hop × Plain). below c s k x ≡ true) (children n)

pub levels : (c : Known → Plain → Bool) (s : Attributes) (k : Known) (n : Plain) → everywhere c s k n ≡ true → Levels c s k n
levels c s k n h =
    let q = and_parts (c k n) (list_all (below c s k) (children n)) (sym (everywhere_is c s k n) ∙ h) in
    record { here = q.0; children = Each-from_test (below c s k) (children n) q.1 }

pub from_levels : (c : Known → Plain → Bool) (s : Attributes) (k : Known) (n : Plain) → Levels c s k n → everywhere c s k n ≡ true
from_levels c s k n l =
    everywhere_is c s k n ∙ and_from (c k n) (list_all (below c s k) (children n)) l.here (test_from_Each (below c s k) (children n) l.children)

-- The induction over the nodes of which a test holds, with what is known of each: what holds of a node where the test
-- holds of it and the claim of its children, holds of each.
pub where_known : (c : Known → Plain → Bool) (s : Attributes) (P : Known → Plain → Type 0)
    → ((k : Known) (n : Plain) → Levels c s k n → AllByRecursion (λ (x : Hop × Plain). P (known_below s x.0 k) x.1) (children n) → P k n)
    → (k : Known) (n : Plain) → everywhere c s k n ≡ true → P k n
where_known c s P step k n h =
    in_trees (λ m. (j : Known) → everywhere c s j m ≡ true → P j m) (λ m claims j t. let l = levels c s j m t in step j m l (joined j (children m) claims l.children)) n k h
  where
    joined : (j : Known) (xs : List (Hop × Plain)) → AllByRecursion (λ (x : Hop × Plain). (i : Known) → everywhere c s i x.1 ≡ true → P i x.1) xs
        → AllByRecursion (λ (x : Hop × Plain). below c s j x ≡ true) xs → AllByRecursion (λ (x : Hop × Plain). P (known_below s x.0 j) x.1) xs
    joined j [] a b = tt
    joined j (x ∷ xs) a b = (a.0 (known_below s x.0 j) b.0, joined j xs a.1 b.1)
