-- Halves and parts of which one has a row less.
use Rattle.std.proofs.Common.{◌≡◌, ◌<◌, ℕ, zero, suc, Bool, true, false, cond, List, [], ◌∷◌, ◌++◌, length, get_or, Option, Some, None, OnSome, IfNone, refl, sym, ap, ◌∙◌, subst, arith}
use Rattle.std.specs.Prelude.{IsPermutation}
use Rattle.std.specs.List.{slice_set, AllByRecursion}
use Rattle.std.proofs.lemmas.List.{append-nil}
use Rattle.be_base.specs.declared.names.AttrNo.{AttrNo}
use Rattle.be_model.specs.declared.changes.Row.{Row}
use Rattle.be_model.specs.declared.paths.Hop.{Hop}
use Rattle.be_model.specs.declared.paths.Hop.TheVariants.{Part, Low, High}
use Rattle.be_model.specs.Schemas.{Attributes}
use Rattle.be_shape.specs.declared.nodes.Part.{Part as PartOf}
use Rattle.be_shape.specs.Plain.{Plain, node, Parts, part, Half, no_half, half, part_as, parts_as, rows_below}
use Rattle.be_shape.specs.Shape.{NodeRange, known}
use Rattle.be_shape.specs.Children.{roots_of, root_of, children, known_below}
use Rattle.be_shape.specs.Right.{IsRight}
use Rattle.be_shape.specs.Less.{is_bare, IsLess}
use Rattle.be_shape.proofs.OneLess.{less_among}
use Rattle.be_remove.specs.Taken.{kept_half, kept_part}

-- the node is right wherever it was
abbrev pub StaysRight : Attributes → NodeRange → Hop → Plain → Plain → Type 0
StaysRight s r hop m o =
    (used : List AttrNo) → IsRight s (known_below s hop (known r used)) m → IsRight s (known_below s hop (known r used)) o

pub half_less : (s : Attributes) (r : NodeRange) (row : Row) (hop : Hop) (m o : Plain) → IsPermutation (rows_below m) (row ∷ rows_below o) → StaysRight s r hop m o → IsLess s r row (root_of hop (half m)) (root_of hop (kept_half (half o)))
half_less s r row hop m o gone right =
    record { hop = hop; old = m; new = o; before = []; after = []; was = refl; is = by_test (is_bare o); gone = gone; right = right }
  where
    by_test : (b : Bool) → root_of hop (cond b no_half (half o)) ≡ [] ++ cond b [] ((hop, o) ∷ []) ++ []
    by_test true = refl
    by_test false = refl

pub part_less : (s : Attributes) (r : NodeRange) (row : Row) (ps : List PartOf) (i : ℕ) (p q : PartOf) (a : AttrNo) (m o : Plain) → i < length ps → q ≡ get_or ps i q → part_as q ≡ (a, m) → part_as p ≡ (a, o)
    → IsPermutation (rows_below m) (row ∷ rows_below o) → StaysRight s r (Part a) m o → IsLess s r row (roots_of (parts_as ps)) (roots_of (kept_part i (parts_as (slice_set ps i p))))
part_less s r row [] i p q a m o l e u v gone right = absurd (omega arith)
part_less s r row (x ∷ ps) zero p q a m o l e u v gone right =
    record {
      hop = Part a;
      old = m;
      new = o;
      before = [];
      after = roots_of (parts_as ps);
      was = ap (λ z. (Part z.0, z.1) ∷ roots_of (parts_as ps)) (ap part_as (sym e) ∙ u);
      is = ap (λ z. roots_of (cond (is_bare z.1) (parts_as ps) (part z.0 z.1 (parts_as ps)))) v ∙ by_test (is_bare o);
      gone = gone;
      right = right;
    }
  where
    by_test : (b : Bool) → roots_of (cond b (parts_as ps) (part a o (parts_as ps))) ≡ [] ++ cond b [] ((Part a, o) ∷ []) ++ roots_of (parts_as ps)
    by_test true = refl
    by_test false = refl
part_less s r row (x ∷ ps) (suc i) p q a m o l e u v gone right =
    let z = part_less s r row ps i p q a m o (omega arith) e u v gone right in
    let first : Hop × Plain = (Part (part_as x).0, (part_as x).1) in
    record {
      hop = z.hop;
      old = z.old;
      new = z.new;
      before = first ∷ z.before;
      after = z.after;
      was = ap (λ y. first ∷ y) z.was;
      is = ap (λ y. first ∷ y) z.is;
      gone = z.gone;
      right = z.right;
    }

-- what holds of each root, at a place
pub at_part : (P : Hop × Plain → Type 0) (ps : List PartOf) (i : ℕ) (q : PartOf) → i < length ps → q ≡ get_or ps i q → AllByRecursion P (roots_of (parts_as ps)) → P (Part (part_as q).0, (part_as q).1)
at_part P [] i q l e h = absurd (omega arith)
at_part P (p ∷ ps) zero q l e h = let Q : PartOf → Type 0 = λ z. P (Part (part_as z).0, (part_as z).1) in subst Q (sym e) h.0
at_part P (p ∷ ps) (suc i) q l e h = at_part P ps i q (omega arith) e h.1

pub same_place : (ps : List PartOf) (i : ℕ) (p q : PartOf) → i < length ps → p ≡ get_or ps i p → q ≡ get_or ps i q → p ≡ q
same_place [] i p q l e f = absurd (omega arith)
same_place (x ∷ ps) zero p q l e f = e ∙ sym f
same_place (x ∷ ps) (suc i) p q l e f = same_place ps i p q (omega arith) e f

-- a part that is as before
pub same_parts : (ps : List PartOf) (i : ℕ) (p q : PartOf) → i < length ps → q ≡ get_or ps i q → part_as p ≡ part_as q → parts_as (slice_set ps i p) ≡ parts_as ps
same_parts [] i p q l e h = absurd (omega arith)
same_parts (x ∷ ps) zero p q l e h = ap (λ z. part z.0 z.1 (parts_as ps)) (h ∙ ap part_as e)
same_parts (x ∷ ps) (suc i) p q l e h =
    ap (λ z. part (part_as x).0 (part_as x).1 z) (same_parts ps i p q (omega arith) e h)

-- the children of a node of which one half, or one part, has a row less
pub low_less : (s : Attributes) (r : NodeRange) (row : Row) (leaf : List Row) (parts : Parts) (low other high : Half) → IsLess s r row (root_of Low low) (root_of Low other) → IsLess s r row (children (node leaf parts low high)) (children (node leaf parts other high))
low_less s r row leaf parts low other high l =
    less_among s r row (roots_of parts) (root_of Low low) (root_of Low other) (root_of High high) l

pub high_less : (s : Attributes) (r : NodeRange) (row : Row) (leaf : List Row) (parts : Parts) (low high other : Half) → IsLess s r row (root_of High high) (root_of High other) → IsLess s r row (children (node leaf parts low high)) (children (node leaf parts low other))
high_less s r row leaf parts low high other l =
    let p = roots_of parts ++ root_of Low low in
    subst (λ c. IsLess s r row c (p ++ root_of High other)) (append-nil (p ++ root_of High high))
    (subst (λ c. IsLess s r row (p ++ root_of High high ++ []) c) (append-nil (p ++ root_of High other)) (less_among s r row p (root_of High high) (root_of High other) [] l))

pub parts_less : (s : Attributes) (r : NodeRange) (row : Row) (leaf : List Row) (parts other : Parts) (low high : Half) → IsLess s r row (roots_of parts) (roots_of other) → IsLess s r row (children (node leaf parts low high)) (children (node leaf other low high))
parts_less s r row leaf parts other low high l =
    less_among s r row [] (roots_of parts ++ root_of Low low) (roots_of other ++ root_of Low low) (root_of High high) (less_among s r row [] (roots_of parts) (roots_of other) (root_of Low low) l)

-- what holds after either answer
pub either : {A : Type 0} {P Q R : Type 0} (o : Option A) → OnSome o P → IfNone o Q → (P → R) → (Q → R) → R
either (Some x) p q f g = f p
either None p q f g = g q

pub on_some : {A : Type 0} {P Q : Type 0} (o : Option A) → OnSome o P → (P → Q) → OnSome o Q
on_some (Some x) p f = f p
on_some None p f = tt

pub if_none : {A : Type 0} {P Q : Type 0} (o : Option A) → IfNone o P → (P → Q) → IfNone o Q
if_none (Some x) p f = tt
if_none None p f = f p

pub if_any : {A : Type 0} {P : Type 0} (o : Option A) → P → IfNone o P
if_any (Some x) p = tt
if_any None p = p
