-- A child among the others.
use Rattle.std.proofs.Common.{◌≡◌, ◌<◌, ℕ, zero, suc, true, List, [], ◌∷◌, ◌++◌, length, slice_get, get_or, Some, refl, sym, ap, ◌∙◌, subst, arith}
use Rattle.std.specs.List.{slice_set, AllByRecursion}
use Rattle.std.proofs.lemmas.Bool.{and_from, and_parts}
use Rattle.std.proofs.lemmas.List.{append_assoc}
use Rattle.be_base.specs.declared.names.AttrNo.{AttrNo}
use Rattle.be_model.specs.declared.changes.Row.{Row}
use Rattle.be_model.specs.declared.paths.Hop.{Hop}
use Rattle.be_model.specs.declared.paths.Hop.TheVariants.{Part, Low, High}
use Rattle.be_model.specs.Schemas.{Attributes, IsSchema}
use Rattle.be_shape.specs.declared.nodes.Part.{Part as PartOf}
use Rattle.be_shape.specs.Plain.{Plain, node, Parts, no_part, part, Half, half, part_as, parts_as, rows_below, leaf_of, parts_under}
use Rattle.be_shape.specs.Shape.{Known, attrs_of, spans_inside, may_stand}
use Rattle.be_shape.specs.Children.{roots_of, root_of, children, known_below, is_open, may_pass}
use Rattle.be_shape.proofs.Children.{Each-parts, levels, below}
use Rattle.be_shape.proofs.Placed.{Placed}
use Rattle.be_shape.specs.Right.{is_right_at, IsRight}
use Rattle.be_shape.proofs.Lists.{all_permuted, all_back}
use Rattle.be_shape.proofs.OneLevel.{Each-at, others, child_last, right_here}
use Rattle.be_shape.proofs.NodeSteps.{placed_by}
use Rattle.be_shape.proofs.LeafSteps.{inside_below}

-- a child, and the children round it
pub record Among (n m : Plain) (hop : Hop) : Type 0 where
  pub before : List (Hop × Plain)
  pub after : List (Hop × Plain)
  pub is : children n ≡ before ++ (hop, m) ∷ after

pub placed_at : (s : Attributes) (k : Known) (n : Plain) → IsRight s k n → Placed s k n
placed_at s k n r = let l = levels (is_right_at s) s k n r.right in placed_by s k n (right_here s k n l.here).0 l.children

-- the step may be made, and the child is right
pub is_open_at : (s : Attributes) (k : Known) (n m : Plain) (hop : Hop) → IsRight s k n → Among n m hop → is_open hop k ≡ true
is_open_at s k n m hop r a =
    Each-at (λ (x : Hop × Plain). is_open x.0 k ≡ true) a.before a.after (hop, m) (subst (AllByRecursion (λ (x : Hop × Plain). is_open x.0 k ≡ true)) a.is (placed_at s k n r).open_steps)

pub child_right : (s : Attributes) (k : Known) (n m : Plain) (hop : Hop) → IsRight s k n → Among n m hop → IsRight s (known_below s hop k) m
child_right s k n m hop r a =
    let l = levels (is_right_at s) s k n r.right in
    record {
      right = Each-at (λ (x : Hop × Plain). below (is_right_at s) s k x ≡ true) a.before a.after (hop, m) (subst (AllByRecursion (λ (x : Hop × Plain). below (is_right_at s) s k x ≡ true)) a.is l.children);
      may = all_back (may_stand s) (others (leaf_of n) a.before a.after) (rows_below m) (all_permuted (may_stand s) (rows_below n) (others (leaf_of n) a.before a.after ++ rows_below m) (child_last n a.before a.after (hop, m) a.is) r.may);
    }

-- the row is inside the range below
pub row_inside : (s : Attributes) (hop : Hop) (k : Known) (row : Row) → IsSchema s → may_stand s row ≡ true → may_pass s hop k.range row ≡ true → spans_inside s (known_below s hop k).range row ≡ true
row_inside s hop k row f may pass =
    (and_parts (spans_inside s (known_below s hop k).range row) true (inside_below s hop k (row ∷ []) f (and_from (may_stand s row) true may refl) (and_from (may_pass s hop k.range row) true pass refl))).0

-- the low and the high half among the children
abbrev pub low_among : (rows : List Row) (parts : Parts) (m : Plain) (high : Half) → Among (node rows parts (half m) high) m Low
low_among rows parts m high =
    record { before = roots_of parts; after = root_of High high; is = append_assoc (roots_of parts) ((Low, m) ∷ []) (root_of High high) }

abbrev pub high_among : (rows : List Row) (parts : Parts) (low : Half) (m : Plain) → Among (node rows parts low (half m)) m High
high_among rows parts low m = record { before = roots_of parts ++ root_of Low low; after = []; is = refl }

-- a part among the others, before and after its root has changed
pub record PartSet (ps : List PartOf) (i : ℕ) (p : PartOf) (a : AttrNo) (m o : Plain) : Type 0 where
  pub before : List (Hop × Plain)
  pub after : List (Hop × Plain)
  pub was : roots_of (parts_as ps) ≡ before ++ (Part a, m) ∷ after
  pub is : roots_of (parts_as (slice_set ps i p)) ≡ before ++ (Part a, o) ∷ after
  pub same : attrs_of (parts_as (slice_set ps i p)) ≡ attrs_of (parts_as ps)

pub part_set : (ps : List PartOf) (i : ℕ) (p q : PartOf) (a : AttrNo) (m o : Plain) → i < length ps → q ≡ get_or ps i q → part_as q ≡ (a, m) → part_as p ≡ (a, o) → PartSet ps i p a m o
part_set [] i p q a m o l e u v = absurd (omega arith)
part_set (r ∷ ps) zero p q a m o l e u v =
    let w : part_as r ≡ (a, m) = ap part_as (sym e) ∙ u in
    record {
      before = [];
      after = roots_of (parts_as ps);
      was = ap (λ z. (Part z.0, z.1) ∷ roots_of (parts_as ps)) w;
      is = ap (λ z. (Part z.0, z.1) ∷ roots_of (parts_as ps)) v;
      same = ap (λ z. z.0 ∷ attrs_of (parts_as ps)) (v ∙ refl) ∙ sym (ap (λ z. z.0 ∷ attrs_of (parts_as ps)) w);
    }
part_set (r ∷ ps) (suc i) p q a m o l e u v =
    let z = part_set ps i p q a m o (omega arith) e u v in
    record {
      before = (Part (part_as r).0, (part_as r).1) ∷ z.before;
      after = z.after;
      was = ap (λ x. (Part (part_as r).0, (part_as r).1) ∷ x) z.was;
      is = ap (λ x. (Part (part_as r).0, (part_as r).1) ∷ x) z.is;
      same = ap (λ x. (part_as r).0 ∷ x) z.same;
    }

pub behind_parts : (xs before after : List (Hop × Plain)) (x : Hop × Plain) (low high : List (Hop × Plain)) → xs ≡ before ++ x ∷ after → xs ++ low ++ high ≡ before ++ x ∷ (after ++ low ++ high)
behind_parts xs before after x low high h =
    ap (λ q. q ++ low ++ high) h ∙ ap (λ q. q ++ high) (append_assoc before (x ∷ after) low) ∙ append_assoc before (x ∷ (after ++ low)) high

-- which child the way of a row leads to
pub unused_at : (k : Known) (parts : Parts) (i : ℕ) (a : AttrNo) → AllByRecursion (λ (x : Hop × Plain). is_open x.0 k ≡ true) (roots_of parts) → slice_get (attrs_of parts) i ≡ Some a → is_open (Part a) k ≡ true
unused_at k no_part i a h e = absurd (cc)
unused_at k (part b root more) zero a h e =
    let same : b ≡ a = cc in subst (λ c. is_open (Part c) k ≡ true) same h.0
unused_at k (part b root more) (suc i) a h e = unused_at k more i a h.1 e

pub open_part : (s : Attributes) (k : Known) (n : Plain) (i : ℕ) (a : AttrNo) → Placed s k n → slice_get (attrs_of (parts_under n)) i ≡ Some a → is_open (Part a) k ≡ true
open_part s k (node rows parts low high) i a p e =
    unused_at k parts i a (Each-parts (λ (x : Hop × Plain). is_open x.0 k ≡ true) (roots_of parts) (root_of Low low) (Each-parts (λ (x : Hop × Plain). is_open x.0 k ≡ true) (roots_of parts ++ root_of Low low) (root_of High high) p.open_steps).0).0 e
