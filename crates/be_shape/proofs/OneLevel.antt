-- A node whose children or leaf have changed.
use Rattle.std.proofs.Common.{◌≡◌, ◌<◌, Bool, true, false, cond, eqb, ltb, ◌&&◌, List, [], ◌∷◌, ◌++◌, None, Some, refl, sym, ap, ◌∙◌, subst, arith}
use Rattle.std.specs.Prelude.{IsPermutation}
use Rattle.std.specs.List.{flat_map, AllByRecursion}
use Rattle.std.proofs.lemmas.Bool.{and_parts, and_from, ltb-false, lt-ltb, eqb-false}
use Rattle.std.proofs.lemmas.List.{append_assoc, append-nil}
use Rattle.std.proofs.lemmas.List.Concat.{flat_map-append}
use Rattle.be_base.specs.declared.names.AttrNo.{AttrNo}
use Rattle.be_model.specs.declared.changes.Row.{Row}
use Rattle.be_model.specs.declared.paths.Hop.{Hop}
use Rattle.be_model.specs.declared.paths.Hop.TheVariants.{Part, Low, High}
use Rattle.be_model.specs.Forms.{attrs_rise}
use Rattle.be_model.specs.Schemas.{Attributes}
use Rattle.be_shape.specs.Plain.{Plain, node, Parts, no_part, part, no_half, half, rows_below, leaf_of, parts_under}
use Rattle.be_shape.specs.Shape.{Known, everywhere, is_placed_at, is_drawn_at, is_pruned_at, is_settled_at, attrs_of}
use Rattle.be_shape.specs.Children.{roots_of, root_of, children, with_part, with_child}
use Rattle.be_shape.specs.Paths.{part_on, child}
use Rattle.be_shape.proofs.Children.{Each-append, Each-parts, from_levels, below, rows_of, rows_are}
use Rattle.be_shape.specs.Right.{is_right_at}
use Rattle.be_shape.proofs.Lists.{swap_last}

-- a child more, somewhere among the others
pub record HasMore (n m : Plain) (x : Hop × Plain) : Type 0 where
  pub before : List (Hop × Plain)
  pub after : List (Hop × Plain)
  pub was : children n ≡ before ++ after
  pub is : children m ≡ before ++ x ∷ after

pub record PartMore (parts : Parts) (a : AttrNo) (n : Plain) : Type 0 where
  before : List (Hop × Plain)
  after : List (Hop × Plain)
  was : roots_of parts ≡ before ++ after
  is : roots_of (with_part a n parts) ≡ before ++ (Part a, n) ∷ after

pub part_more : (parts : Parts) (a : AttrNo) (n : Plain) → PartMore parts a n
part_more no_part a n = record { before = []; after = []; was = refl; is = refl }
part_more (part b root more) a n = by_test (ltb a.0 b.0) refl (part_more more a n)
  where
    by_test : (t : Bool) → ltb a.0 b.0 ≡ t → PartMore more a n → PartMore (part b root more) a n
    by_test true h r = record { before = []; after = roots_of (part b root more); was = refl; is = ap (λ c. roots_of (cond c (part a n (part b root more)) (part b root (with_part a n more)))) h }
    by_test false h r = record { before = (Part b, root) ∷ r.before; after = r.after; was = ap (λ l. (Part b, root) ∷ l) r.was; is = ap (λ c. roots_of (cond c (part a n (part b root more)) (part b root (with_part a n more)))) h ∙ ap (λ l. (Part b, root) ∷ l) r.is }

pub child_more : (hop : Hop) (m n : Plain) → child hop n ≡ None → HasMore n (with_child hop m n) (hop, m)
child_more (Part a) m (node rows parts low high) h =
    let r = part_more parts a m in
    let l = root_of Low low in
    let u = root_of High high in
    record {
      before = r.before;
      after = r.after ++ l ++ u;
      was = ap (λ q. q ++ l ++ u) r.was ∙ ap (λ q. q ++ u) (append_assoc r.before r.after l) ∙ append_assoc r.before (r.after ++ l) u;
      is = ap (λ q. q ++ l ++ u) r.is ∙ ap (λ q. q ++ u) (append_assoc r.before ((Part a, m) ∷ r.after) l) ∙ append_assoc r.before ((Part a, m) ∷ (r.after ++ l)) u;
    }
child_more Low m (node rows parts (half n) high) h = absurd (cc)
child_more Low m (node rows parts no_half high) h =
    record { before = roots_of parts; after = root_of High high; was = ap (λ q. q ++ root_of High high) (append-nil (roots_of parts)); is = append_assoc (roots_of parts) ((Low, m) ∷ []) (root_of High high) }
child_more High m (node rows parts low (half n)) h = absurd (cc)
child_more High m (node rows parts low no_half) h =
    record { before = roots_of parts ++ root_of Low low; after = []; was = refl; is = refl }

-- the parts still rise
pub rise_under : (b a : AttrNo) (m : Plain) (parts : Parts) → attrs_rise (b ∷ attrs_of parts) ≡ true → b.0 < a.0 → part_on a parts ≡ None → attrs_rise (b ∷ attrs_of (with_part a m parts)) ≡ true
rise_under b a m no_part h l gone = and_from (ltb b.0 a.0) true (lt-ltb b.0 a.0 l) refl
rise_under b a m (part c root more) h l gone =
    let k = and_parts (ltb b.0 c.0) (attrs_rise (c ∷ attrs_of more)) h in
    by_test (ltb a.0 c.0) refl k.0 k.1 (λ l' no'. rise_under c a m more k.1 l' no')
  where
    elsewhere : (t : Bool) → eqb c.0 a.0 ≡ t → cond t (Some root) (part_on a more) ≡ None → (eqb c.0 a.0 ≡ false) × (part_on a more ≡ None)
    elsewhere true e z = absurd (cc)
    elsewhere false e z = (e, z)

    by_test : (t : Bool) → ltb a.0 c.0 ≡ t → ltb b.0 c.0 ≡ true → attrs_rise (c ∷ attrs_of more) ≡ true → (c.0 < a.0 → part_on a more ≡ None → attrs_rise (c ∷ attrs_of (with_part a m more)) ≡ true)
        → attrs_rise (b ∷ attrs_of (cond t (part a m (part c root more)) (part c root (with_part a m more)))) ≡ true
    by_test true t h' k' f =
        and_from (ltb b.0 a.0) (ltb a.0 c.0 && attrs_rise (c ∷ attrs_of more)) (lt-ltb b.0 a.0 l) (and_from (ltb a.0 c.0) (attrs_rise (c ∷ attrs_of more)) t k')
    by_test false t h' k' f =
        let z = elsewhere (eqb c.0 a.0) refl gone in
        let ne = eqb-false c.0 a.0 z.0 in
        let ge = ltb-false a.0 c.0 t in
        let below_a : c.0 < a.0 = omega arith in
        and_from (ltb b.0 c.0) (attrs_rise (c ∷ attrs_of (with_part a m more))) h' (f below_a z.1)

pub part_rise : (a : AttrNo) (m : Plain) (parts : Parts) → attrs_rise (attrs_of parts) ≡ true → part_on a parts ≡ None → attrs_rise (attrs_of (with_part a m parts)) ≡ true
part_rise a m no_part h gone = refl
part_rise a m (part c root more) h gone = by_test (ltb a.0 c.0) refl
  where
    elsewhere : (t : Bool) → eqb c.0 a.0 ≡ t → cond t (Some root) (part_on a more) ≡ None → (eqb c.0 a.0 ≡ false) × (part_on a more ≡ None)
    elsewhere true e z = absurd (cc)
    elsewhere false e z = (e, z)

    by_test : (t : Bool) → ltb a.0 c.0 ≡ t → attrs_rise (attrs_of (cond t (part a m (part c root more)) (part c root (with_part a m more)))) ≡ true
    by_test true t = and_from (ltb a.0 c.0) (attrs_rise (c ∷ attrs_of more)) t h
    by_test false t =
        let z = elsewhere (eqb c.0 a.0) refl gone in
        let ne = eqb-false c.0 a.0 z.0 in
        let ge = ltb-false a.0 c.0 t in
        let below_a : c.0 < a.0 = omega arith in rise_under c a m more h below_a z.1

pub child_rise : (hop : Hop) (m n : Plain) → attrs_rise (attrs_of (parts_under n)) ≡ true → child hop n ≡ None → attrs_rise (attrs_of (parts_under (with_child hop m n))) ≡ true
child_rise (Part a) m (node rows parts low high) h gone = part_rise a m parts h gone
child_rise Low m (node rows parts low high) h gone = h
child_rise High m (node rows parts low high) h gone = h

pub child_leaf : (hop : Hop) (m n : Plain) → leaf_of (with_child hop m n) ≡ leaf_of n
child_leaf (Part a) m (node rows parts low high) = refl
child_leaf Low m (node rows parts low high) = refl
child_leaf High m (node rows parts low high) = refl

-- each of a list with one more in its midst
pub Each-middle : {X : Type 0} (P : X → Type 0) (before after : List X) (x : X) → AllByRecursion P (before ++ after) → P x → AllByRecursion P (before ++ x ∷ after)
Each-middle P before after x h k =
    let q = Each-parts P before after h in Each-append P before (x ∷ after) q.0 (k, q.1)

pub Each-without : {X : Type 0} (P : X → Type 0) (before after : List X) (x : X) → AllByRecursion P (before ++ x ∷ after) → AllByRecursion P (before ++ after)
Each-without P before after x h =
    let q = Each-parts P before (x ∷ after) h in Each-append P before after q.0 q.1.1

pub Each-at : {X : Type 0} (P : X → Type 0) (before after : List X) (x : X) → AllByRecursion P (before ++ x ∷ after) → P x
Each-at P before after x h = (Each-parts P before (x ∷ after) h).1.0

-- the rows of a node, those below one of its children last
abbrev pub others : List Row → List (Hop × Plain) → List (Hop × Plain) → List Row
others leaf before after = leaf ++ flat_map rows_of (before ++ after)

pub child_last : (n : Plain) (before after : List (Hop × Plain)) (x : Hop × Plain) → children n ≡ before ++ x ∷ after → IsPermutation (rows_below n) (others (leaf_of n) before after ++ rows_below x.1)
child_last n before after x h =
    let leaf = leaf_of n in
    let b = flat_map rows_of before in
    let a = flat_map rows_of after in
    let r = rows_below x.1 in
    let e : rows_below n ≡ (leaf ++ b) ++ r ++ a =
    rows_are n ∙ ap (λ l. leaf ++ flat_map rows_of l) h ∙ ap (λ l. leaf ++ l) (flat_map-append rows_of before (x ∷ after)) ∙ sym (append_assoc leaf b (r ++ a)) ∙ sym (append_assoc (leaf ++ b) r a) in
    let f : (leaf ++ b) ++ a ++ r ≡ others leaf before after ++ r =
    ap (λ l. l ++ r) (append_assoc leaf b a ∙ ap (λ l. leaf ++ l) (sym (flat_map-append rows_of before after))) in
    subst (λ l. IsPermutation l (others leaf before after ++ r)) (sym e) (subst (IsPermutation ((leaf ++ b) ++ r ++ a)) f (swap_last (leaf ++ b) r a))

-- a node is right where it is placed by its children, drawn, pruned and settled, and they are right
pub right_here : (s : Attributes) (k : Known) (n : Plain) → is_right_at s k n ≡ true → (is_placed_at s k n ≡ true) × (is_drawn_at s k n ≡ true) × (is_pruned_at k n ≡ true) × (is_settled_at s k n ≡ true)
right_here s k n h =
    let a = and_parts (is_placed_at s k n && is_drawn_at s k n) (is_pruned_at k n && is_settled_at s k n) h in
    let b = and_parts (is_placed_at s k n) (is_drawn_at s k n) a.0 in
    let c = and_parts (is_pruned_at k n) (is_settled_at s k n) a.1 in (b.0, b.1, c.0, c.1)

pub right_from : (s : Attributes) (k : Known) (n : Plain) → is_placed_at s k n ≡ true → is_drawn_at s k n ≡ true → is_pruned_at k n ≡ true → is_settled_at s k n ≡ true
    → AllByRecursion (λ (x : Hop × Plain). below (is_right_at s) s k x ≡ true) (children n) → everywhere (is_right_at s) s k n ≡ true
right_from s k n a b c d e =
    from_levels (is_right_at s) s k n (record {
      here = and_from (is_placed_at s k n && is_drawn_at s k n) (is_pruned_at k n && is_settled_at s k n) (and_from (is_placed_at s k n) (is_drawn_at s k n) a b) (and_from (is_pruned_at k n) (is_settled_at s k n) c d);
      children = e;
    })
