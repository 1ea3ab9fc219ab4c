-- What is known of a node below the part that rows may leave, and that stuck rows gain nowhere where no other part was met.
use Rattle.std.proofs.Common.{◌≡◌, ℕ, zero, suc, ◌<◌, eqb, leb, Bool, true, false, not, ◌&&◌, ◌||◌, List, [], ◌∷◌, length, get_or, Option, Some, None, cond, refl, sym, ap, ◌∙◌, subst, arith}
use Rattle.std.specs.Prelude.{option_map}
use Rattle.std.specs.List.{list_all, find, AllByRecursion}
use Rattle.std.proofs.lemmas.Bool.{and_parts, and_from, or_parts, eqb-true, leb-true, false_from_ne_true}
use Rattle.std.proofs.lemmas.Bool.Decides.{nat_tests}
use Rattle.be_base.specs.declared.names.AttrNo.{AttrNo}
use Rattle.be_base.specs.declared.limits.TheConstants.{LEAF_ROWS}
use Rattle.be_model.specs.declared.changes.Row.{Row}
use Rattle.be_model.specs.declared.preds.Pred.{Pred}
use Rattle.be_model.specs.declared.paths.Hop.{Hop}
use Rattle.be_model.specs.declared.paths.Hop.TheVariants.{Part, Low, High}
use Rattle.be_model.specs.Domains.{Range}
use Rattle.be_model.specs.Schemas.{Attributes, IsSchema, range_of}
use Rattle.be_shape.specs.declared.nodes.Part.{Part as PartOf}
use Rattle.be_shape.specs.Plain.{Plain, Parts, no_part, part, part_as, parts_as, parts_under, leaf_of}
use Rattle.be_shape.specs.Shape.{NodeRange, Known, known, whole, attrs_of, is_used, is_stuck, can_split, spans_inside, lower, upper}
use Rattle.be_shape.specs.Paths.{child, range_below}
use Rattle.be_shape.specs.Children.{roots_of}
use Rattle.be_shape.specs.Ranges.{is_bounded, is_rising}
use Rattle.be_shape.specs.Right.{IsRight}
use Rattle.be_shape.proofs.Among.{child_right}
use Rattle.be_plan.specs.Plan.{gains}
use Rattle.be_plan.specs.Shifts.{lower_id, least_gain, is_apart, meets_by, IsBelow, PartsBelow}
use Rattle.be_plan.proofs.Gains.{gain_has, gain_differs}
use Rattle.be_shape.proofs.WholeRanges.{whole_bounded, whole_rising}
use Rattle.be_plan.proofs.Places.{among, attrs_unused, settles_here}
use Rattle.be_plan.proofs.Firsts.{roots_there}
use Rattle.be_plan.proofs.Stuck.{used_attr}

-- a step to a part of none of the attributes leaves them apart
still_apart : (from b : AttrNo) (used attrs : List AttrNo) → is_used attrs b ≡ false → list_all (is_apart from used) attrs ≡ true → list_all (is_apart from (b ∷ used)) attrs ≡ true
still_apart from b used [] n h = refl
still_apart from b used (a ∷ attrs) n h =
    let k = and_parts (is_apart from used a) (list_all (is_apart from used) attrs) h in
    let o = or_parts (eqb a.0 b.0) (is_used attrs b) n in
    let differ : eqb b.0 a.0 ≡ false = turned o.0 in
    and_from (is_apart from (b ∷ used) a) (list_all (is_apart from (b ∷ used)) attrs) (ap (λ t. eqb a.0 from.0 || not (t || is_used used a)) differ ∙ k.0) (still_apart from b used attrs o.1 k.1)
  where
    turned : eqb a.0 b.0 ≡ false → eqb b.0 a.0 ≡ false
    turned e = grind (arith, nat_tests)

-- a child of a node below the part
pub child_below : (s : Attributes) (attrs : List AttrNo) (from : AttrNo) (met : Bool) (r : NodeRange) (n m : Plain) (hop : Hop) → IsBelow s attrs from met r n → child hop n ≡ Some m
    → is_bounded (range_below s hop r) ≡ true → is_rising (range_below s hop r) ≡ true → IsBelow s attrs from (meets_by attrs hop met) (range_below s hop r) m
child_below s attrs from met r n m (Part a) b e bounded rising =
    record {
      used = a ∷ b.used;
      right = child_right s (known r b.used) n m (Part a) b.right (among n m (Part a) e);
      bounded = bounded;
      rising = rising;
      apart = λ h. let o = or_parts met (is_used attrs a) h in still_apart from a b.used attrs o.1 (b.apart o.0);
    }
child_below s attrs from met r n m Low b e bounded rising =
    record { used = b.used; right = child_right s (known r b.used) n m Low b.right (among n m Low e); bounded = bounded; rising = rising; apart = b.apart }
child_below s attrs from met r n m High b e bounded rising =
    record { used = b.used; right = child_right s (known r b.used) n m High b.right (among n m High e); bounded = bounded; rising = rising; apart = b.apart }

-- a stuck row has none of the attributes
stuck_gain : (s : Attributes) (k : Known) (from : AttrNo) (attrs : List AttrNo) (row : Row) → is_stuck s k row ≡ true → list_all (is_apart from k.used) attrs ≡ true → find (gains s from row) attrs ≡ None
stuck_gain s k from [] row u h = refl
stuck_gain s k from (to ∷ attrs) row u h =
    let j = and_parts (is_apart from k.used to) (list_all (is_apart from k.used) attrs) h in ap (λ t. cond t (Some to) (find (gains s from row) attrs)) (false_from_ne_true (gains s from row to) (none j.0)) ∙ stuck_gain s k from attrs row u j.1
  where
    all : list_all (λ (p : Pred). is_used k.used p.attr) row.conj ≡ true
    all = (and_parts (list_all (λ (p : Pred). is_used k.used p.attr) row.conj) (not (can_split k.range && (spans_inside s (lower k.range) row || spans_inside s (upper k.range) row))) u).0

    none : is_apart from k.used to ≡ true → gains s from row to ≡ true → ⊥
    none a g =
        let used = used_attr k.used to row.conj all (gain_has s from to row g) in
        let same : eqb to.0 from.0 ≡ true = by_test (eqb to.0 from.0) (sym (ap (λ t. eqb to.0 from.0 || not t) used) ∙ a) in
        gain_differs s from to row g (sym (eqb-true to.0 from.0 same))
      where
        by_test : (t : Bool) → (t || false) ≡ true → t ≡ true
        by_test true e = refl
        by_test false e = e

pub stuck_gains : (s : Attributes) (k : Known) (from : AttrNo) (attrs : List AttrNo) (rows : List Row) → list_all (is_stuck s k) rows ≡ true → list_all (is_apart from k.used) attrs ≡ true → least_gain s attrs from rows ≡ None
stuck_gains s k from attrs [] u h = refl
stuck_gains s k from attrs (row ∷ rows) u h =
    let j = and_parts (is_stuck s k row) (list_all (is_stuck s k) rows) u in
    ap (λ o. lower_id (option_map (λ (to : AttrNo). (row.id, to)) o) (least_gain s attrs from rows)) (stuck_gain s k from attrs row j.0 h) ∙ stuck_gains s k from attrs rows j.1 h

-- what holds of each part's root holds of one
pub each_part : (P : Hop × Plain → Type 0) (ps : List PartOf) (i : ℕ) (p : PartOf) → i < length ps → p ≡ get_or ps i p → AllByRecursion P (roots_of (parts_as ps)) → P (Part (part_as p).0, (part_as p).1)
each_part P [] i p l is h = absurd (omega arith)
each_part P (r ∷ ps) zero p l is h = subst (λ (q : PartOf). P (Part (part_as q).0, (part_as q).1)) (sym is) h.0
each_part P (r ∷ ps) (suc i) p l is h = each_part P ps i p (omega arith) is h.1

-- the parts of a node below the part
pub parts_below : (s : Attributes) (attrs : List AttrNo) (from : AttrNo) (met : Bool) (r : NodeRange) (n : Plain) → IsSchema s → IsBelow s attrs from met r n → PartsBelow s attrs from met (parts_under n)
parts_below s attrs from met r n f b = of_parts (parts_under n) (roots_there s (known r b.used) n b.right)
  where
    bounded : (a : AttrNo) (o : Option Range) → range_of s a ≡ o → is_bounded (option_map (λ d. (a, d)) o) ≡ true
    bounded a None e = refl
    bounded a (Some d) e = whole_bounded s a d f e

    rising : (a : AttrNo) (o : Option Range) → range_of s a ≡ o → is_rising (option_map (λ d. (a, d)) o) ≡ true
    rising a None e = refl
    rising a (Some d) e = whole_rising s a d f e

    of_parts : (parts : Parts) → AllByRecursion (λ (x : Hop × Plain). child x.0 n ≡ Some x.1) (roots_of parts) → PartsBelow s attrs from met parts
    of_parts no_part h = tt
    of_parts (part a root more) h =
        (child_below s attrs from met r n root (Part a) b h.0 (bounded a (range_of s a) refl) (rising a (range_of s a) refl), of_parts more h.1)

-- the root of the part that rows may leave
all_apart : (a : AttrNo) (used attrs : List AttrNo) → list_all (λ b. not (is_used used b)) attrs ≡ true → list_all (is_apart a (a ∷ used)) attrs ≡ true
all_apart a used [] h = refl
all_apart a used (b ∷ attrs) h =
    let k = and_parts (not (is_used used b)) (list_all (λ c. not (is_used used c)) attrs) h in
    and_from (is_apart a (a ∷ used) b) (list_all (is_apart a (a ∷ used)) attrs) (by_test (eqb b.0 a.0) refl k.0) (all_apart a used attrs k.1)
  where
    by_test : (t : Bool) → eqb b.0 a.0 ≡ t → not (is_used used b) ≡ true → is_apart a (a ∷ used) b ≡ true
    by_test true e u = ap (λ t. t || not (eqb a.0 b.0 || is_used used b)) e
    by_test false e u =
        let differ : eqb a.0 b.0 ≡ false = turned e in
        ap (λ t. t || not (eqb a.0 b.0 || is_used used b)) e ∙ ap (λ t. not (t || is_used used b)) differ ∙ u
      where
        turned : eqb b.0 a.0 ≡ false → eqb a.0 b.0 ≡ false
        turned e = grind (arith, nat_tests)

pub first_below : (s : Attributes) (k : Known) (n m : Plain) (a : AttrNo) → IsRight s k n → child (Part a) n ≡ Some m → is_bounded (whole s a) ≡ true → is_rising (whole s a) ≡ true
    → IsBelow s (attrs_of (parts_under n)) a false (whole s a) m
first_below s k n m a r e bounded rising =
    record {
      used = a ∷ k.used;
      right = child_right s k n m (Part a) r (among n m (Part a) e);
      bounded = bounded;
      rising = rising;
      apart = λ _. all_apart a k.used (attrs_of (parts_under n)) (attrs_unused s k n r);
    }

-- the rows of a leaf of more than 16
pub leaf_gains : (s : Attributes) (attrs : List AttrNo) (from : AttrNo) (met : Bool) (r : NodeRange) (n : Plain) (rows : List Row) → IsBelow s attrs from met r n → leaf_of n ≡ rows → met ≡ false → LEAF_ROWS < length rows → least_gain s attrs from rows ≡ None
leaf_gains s attrs from met r n rows b is m l = by_test (leb (length rows) LEAF_ROWS) refl settled
  where
    settled : (leb (length rows) LEAF_ROWS || list_all (is_stuck s (known r b.used)) rows) ≡ true
    settled = subst (λ xs. (leb (length xs) LEAF_ROWS || list_all (is_stuck s (known r b.used)) xs) ≡ true) is (settles_here s (known r b.used) n b.right)

    by_test : (t : Bool) → leb (length rows) LEAF_ROWS ≡ t → (t || list_all (is_stuck s (known r b.used)) rows) ≡ true → least_gain s attrs from rows ≡ None
    by_test true e h = let few = leb-true (length rows) LEAF_ROWS e in absurd (omega arith)
    by_test false e h = stuck_gains s (known r b.used) from attrs rows h (b.apart m)
