-- A place's slots tell how many tests it has.
use Rattle.std.proofs.Common.{◌≡◌, ℕ, pos, ◌+ℤ◌, ◌-ℤ◌, ◌+◌, leb, Bool, true, false, ◌&&◌, ◌||◌, List, [], ◌∷◌, ◌++◌, length, is_some, Option, Some, None, option_map, option_and_then, cond, refl, sym, ap, ap₂, subst, ◌∙◌, arith}
use Rattle.std.specs.Prelude.{◌==◌, ◌%◌}
use Rattle.std.specs.Int.Signed.{le_z}
use Rattle.std.specs.List.{list_all}
use Rattle.std.proofs.lemmas.Bool.{and_parts, eqb-true}
use Rattle.be_model.specs.declared.ops.Op.{Op}
use Rattle.be_model.specs.declared.ops.Op.TheVariants.{Lt, Le, Eq, Ne, Ge, Gt, Between, OneOf, NoneOf}
use Rattle.be_model.specs.declared.preds.Pred.{Pred}
use Rattle.be_model.specs.Hulls.{first_of_values, last_of_values}
use Rattle.be_shape.specs.declared.glances.Bounds.{Bounds}
use Rattle.be_shape.specs.declared.widths.Narrowest.{Narrowest}
use Rattle.be_shape.specs.declared.glances.Extent.{Extent}
use Rattle.be_shape.specs.declared.glances.Extent.TheVariants.{Whole, Few, Part}
use Rattle.be_shape.specs.declared.small_sets.Told.{Told}
use Rattle.be_shape.specs.declared.small_sets.Told.TheVariants.{AsWhole, AsFew, AsPart, IsSet}
use Rattle.be_shape.specs.declared.test_counts.Count.{Count}
use Rattle.be_shape.specs.declared.test_counts.Count.TheVariants.{Zero, One, Two, Three}
use Rattle.be_shape.specs.FewTests.{test_of, few_of, few_told}
use Rattle.be_shape.specs.Glances.{Glance, least, greatest, small, bounds, bounds_of, Test, test_on, is_part, glance, with_extent, with_test, with_bounds, narrow_bounds, further_bounds, with_pred, with_preds, narrowest_of, glance_of}
use Rattle.be_shape.specs.Lanes.{Slot, Lane, lowered, free, is_free, AreFree}
use Rattle.be_shape.specs.Told.{is_set}
use Rattle.be_shape.proofs.BoundedTests.{below_to, less_eq, same_le}
use Rattle.be_shape.proofs.FirstBounds.{of_first, of_further}
use Rattle.be_shape.proofs.ToldTests.{by_small, le_test, more_of_parts}

-- no value is beyond the second end
abbrev is_below : Test → Bool
is_below t = le_z t.1.1 greatest

abbrev pub are_below : List Test → Bool
are_below tests = list_all is_below tests

abbrev IsBelow : Option Bounds → Type 0
IsBelow None = Unit {0}
IsBelow (Some b) = le_z b.ends.1 greatest ≡ true

below_all : le_z greatest greatest ≡ true
below_all = le_test greatest greatest (same_le greatest)

below_bound : (op : Op) → IsBelow (bounds_of op)
below_bound (Lt x) = by_small x (λ o. IsBelow (option_map (λ v. bounds least (v -ℤ pos 1) true) o)) (λ l h. le_test (x -ℤ pos 1) greatest (below_to x h)) tt
below_bound (Le x) = by_small x (λ o. IsBelow (option_map (λ v. bounds least v true) o)) (λ l h. le_test x greatest (less_eq x greatest h)) tt
below_bound (Eq x) = by_small x (λ o. IsBelow (option_map (λ v. bounds v v true) o)) (λ l h. le_test x greatest (less_eq x greatest h)) tt
below_bound (Ne x) = below_all
below_bound (Ge x) = by_small x (λ o. IsBelow (option_map (λ v. bounds v greatest true) o)) (λ l h. below_all) tt
below_bound (Gt x) = by_small x (λ o. IsBelow (option_map (λ v. bounds (v +ℤ pos 1) greatest true) o)) (λ l h. below_all) tt
below_bound (Between x y) =
    by_small x (λ o. IsBelow (option_and_then (λ v. option_map (λ w. bounds v w (le_z v w)) (small y)) o))
    (λ l h. by_small y (λ o. IsBelow (option_map (λ w. bounds x w (le_z x w)) o)) (λ m n. le_test y greatest (less_eq y greatest n)) tt) tt
below_bound (OneOf xs) =
    let x = first_of_values xs in
    let y = last_of_values xs in
    by_small x (λ o. IsBelow (option_and_then (λ v. option_map (λ w. bounds v w false) (small y)) o))
    (λ l h. by_small y (λ o. IsBelow (option_map (λ w. bounds x w false) o)) (λ m n. le_test y greatest (less_eq y greatest n)) tt) tt
below_bound (NoneOf xs) = below_all

abbrev HasBelow : Glance → Type 0
HasBelow g = are_below g.tests ≡ true

below_extent : (x : Extent) (g : Glance) → HasBelow g → HasBelow (with_extent x g)
below_extent x g t = by_part (is_part g.extent)
  where
    by_part : (c : Bool) → HasBelow (cond c g (glance g.tests x))
    by_part true = t
    by_part false = t

below_test : (x : Extent) (p : Pred) (b : Bounds) (g : Glance) → HasBelow g → IsBelow (Some b) → HasBelow (with_test x p.attr b g)
below_test full p b g t k = by_room (leb 256 p.attr.0 || leb 3 (length g.tests))
  where
    new : Test
    new = (p.attr, b.ends)

    by_room : (c : Bool) → HasBelow (cond c (with_extent full g) (glance (g.tests ++ new ∷ []) (cond (b.exact || is_part g.extent) g.extent Few)))
    by_room true = below_extent full g t
    by_room false = more_of_parts is_below g.tests new t k

below_bounds : (x : Extent) (p : Pred) (o : Option Bounds) (g : Glance) → HasBelow g → IsBelow o → HasBelow (with_bounds x p.attr o g)
below_bounds x p None g t k = below_extent x g t
below_bounds x p (Some b) g t k = below_test x p b g t k

below_pred : (chosen : Narrowest) (few : Bool) (xs : List Pred) (p : Pred) (g : Glance) → HasBelow g → HasBelow (with_pred chosen few xs p g)
below_pred chosen few xs p g t = by_test (is_some (test_on p.attr g.tests))
  where
    by_test : (c : Bool) → HasBelow (cond c (with_bounds Few p.attr (further_bounds few p) g) (with_bounds Part p.attr (narrow_bounds chosen xs p) g))
    by_test true = below_bounds Few p (further_bounds few p) g t (of_further IsBelow tt few p (below_bound p.op))
    by_test false = below_bounds Part p (narrow_bounds chosen xs p) g t (of_first IsBelow tt chosen xs p (below_bound p.op))

below_preds : (chosen : Narrowest) (xs ps : List Pred) (g : Glance) → HasBelow g → HasBelow (with_preds chosen xs ps g)
below_preds chosen xs [] g t = t
below_preds chosen xs (p ∷ ps) g t =
    let few = leb (length g.tests + length (p ∷ ps)) 3 in
    below_preds chosen (xs ++ p ∷ []) ps (with_pred chosen few xs p g) (below_pred chosen few xs p g t)

pub tests_below : (conj : List Pred) (tests : List Test) (extent : Extent) → glance tests extent ≡ glance_of conj → are_below tests ≡ true
tests_below conj tests extent same = subst HasBelow (sym same) (below_preds (narrowest_of conj) [] conj (glance [] Whole) refl)

-- the lane of such a test isn't free
not_free : (l : Lane) → is_below (test_of l) ≡ true → is_free l.1 ≡ false
not_free l h = by_test (is_free l.1) refl
  where
    beyond : l.1.0 ≡ 0 → l.1.1 ≡ 4294967295 → le_z (lowered ((l.1.0 + l.1.1) % 4294967296)) greatest ≡ false
    beyond e f = ap₂ (λ (x y : ℕ). le_z (lowered ((x + y) % 4294967296)) greatest) e f

    by_test : (b : Bool) → is_free l.1 ≡ b → b ≡ false
    by_test false e = refl
    by_test true e =
        let p = and_parts (l.1.0 == 0) (l.1.1 == 4294967295) e in
        let n = beyond (eqb-true l.1.0 0 p.0) (eqb-true l.1.1 4294967295 p.1) in sym h ∙ n

free_is : (s : Slot) → s ≡ free → is_free s ≡ true
free_is s e = ap is_free e

pub not_set : (told : Told) → (told ≡ IsSet → ⊥) → is_set told ≡ false
not_set AsWhole n = refl
not_set AsFew n = refl
not_set AsPart n = refl
not_set IsSet n = absurd (n refl)

abbrev counted_by : Bool → Bool → Bool → Bool → Count
counted_by s a b c = cond s One (cond a Zero (cond b One (cond c Two Three)))

by_four : (s t a d b e c f : Bool) → s ≡ t → a ≡ d → b ≡ e → c ≡ f → counted_by s a b c ≡ counted_by t d e f
by_four s t a d b e c f h i j k = ap₂ (λ (x y : Bool). counted_by x y b c) h i ∙ ap₂ (counted_by t d) j k

same_count : (told : Told) (count : Count) (x y z : Lane) → is_set told ≡ false → AreFree (few_of count x y z) → are_below (few_of count x y z).tests ≡ true
    → counted_by (is_set told) (is_free x.1) (is_free y.1) (is_free z.1) ≡ count
same_count told Zero x y z n f b = by_four (is_set told) false (is_free x.1) true (is_free y.1) (is_free y.1) (is_free z.1) (is_free z.1) n (free_is x.1 (f.first (omega arith))) refl refl
same_count told One x y z n f b =
    let p = and_parts (is_below (test_of x)) true b in
    by_four (is_set told) false (is_free x.1) false (is_free y.1) true (is_free z.1) (is_free z.1) n (not_free x p.0) (free_is y.1 (f.second (omega arith))) refl
same_count told Two x y z n f b =
    let p = and_parts (is_below (test_of x)) (is_below (test_of y) && true) b in
    let q = and_parts (is_below (test_of y)) true p.1 in
    by_four (is_set told) false (is_free x.1) false (is_free y.1) false (is_free z.1) true n (not_free x p.0) (not_free y q.0) (free_is z.1 (f.third (omega arith)))
same_count told Three x y z n f b =
    let p = and_parts (is_below (test_of x)) (is_below (test_of y) && (is_below (test_of z) && true)) b in
    let q = and_parts (is_below (test_of y)) (is_below (test_of z) && true) p.1 in
    let r = and_parts (is_below (test_of z)) true q.1 in
    by_four (is_set told) false (is_free x.1) false (is_free y.1) false (is_free z.1) false n (not_free x p.0) (not_free y q.0) (not_free z r.0)

pub counted : (told : Told) (count : Count) (x y z : Lane) → is_set told ≡ false → AreFree (few_of count x y z) → are_below (few_of count x y z).tests ≡ true → few_of count x y z ≡ few_told told x y z
counted told count x y z n f b = sym (ap (λ (c : Count). few_of c x y z) (same_count told count x y z n f b))

-- a set alone has one test
pub one_counted : (count : Count) (x y z : Lane) → length (few_of count x y z).tests ≡ 1 → count ≡ One
one_counted Zero x y z h = absurd (omega (arith, h))
one_counted One x y z h = refl
one_counted Two x y z h = absurd (omega (arith, h))
one_counted Three x y z h = absurd (omega (arith, h))
