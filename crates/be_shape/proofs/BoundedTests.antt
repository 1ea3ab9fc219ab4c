-- The tests that are all of a condition have ends that aren't turned.
use Rattle.std.proofs.Common.{◌≡◌, ℤ, pos, ◌+ℤ◌, ◌-ℤ◌, ◌≤ℤ◌, ◌<ℤ◌, ◌+◌, leb, Bool, true, false, ◌&&◌, ◌||◌, List, [], ◌∷◌, ◌++◌, length, is_some, Option, Some, None, option_map, option_and_then, cond, refl, sym, subst, arith}
use Rattle.be_model.specs.declared.ops.Op.{Op}
use Rattle.be_model.specs.declared.ops.Op.TheVariants.{Lt, Le, Eq, Ne, Ge, Gt, Between, OneOf, NoneOf}
use Rattle.be_model.specs.declared.preds.Pred.{Pred}
use Rattle.be_model.specs.Hulls.{first_of_values, last_of_values}
use Rattle.be_shape.specs.declared.glances.Bounds.{Bounds}
use Rattle.be_shape.specs.declared.widths.Narrowest.{Narrowest}
use Rattle.be_shape.specs.declared.glances.Extent.{Extent}
use Rattle.be_shape.specs.declared.glances.Extent.TheVariants.{Whole, Few, Part}
use Rattle.be_shape.specs.Glances.{Glance, least, greatest, small, bounds, bounds_of, Test, test_on, is_whole, is_part, glance, with_extent, with_test, with_bounds, narrow_bounds, further_bounds, with_pred, with_preds, narrowest_of, glance_of}
use Rattle.std.specs.Int.Signed.{le_z}
use Rattle.std.proofs.lemmas.Int.{ints}
use Rattle.std.specs.List.{list_all}
use Rattle.be_shape.proofs.FirstBounds.{of_first, of_further}
use Rattle.be_shape.proofs.ToldTests.{by_small, both, le_test, more_of_parts, wholly}

-- the ends aren't turned, and no value is beyond the second one
abbrev pub is_sound : ℤ × ℤ → Bool
is_sound ends = le_z ends.0 ends.1 && le_z ends.1 greatest

abbrev pub are_sound : List Test → Bool
are_sound tests = list_all (λ (t : Test). is_sound t.1) tests

pub sound : (l h : ℤ) → l ≤ℤ h → h ≤ℤ greatest → is_sound (l, h) ≡ true
sound l h j k = both (le_z l h) (le_z h greatest) (le_test l h j) (le_test h greatest k)

abbrev IsSound : Option Bounds → Type 0
IsSound None = Unit {0}
IsSound (Some b) = b.exact ≡ true → is_sound b.ends ≡ true

below_from : (x : ℤ) → least <ℤ x → least ≤ℤ (x -ℤ pos 1)
below_from x l = omega (arith, ints)

pub below_to : (x : ℤ) → x <ℤ greatest → (x -ℤ pos 1) ≤ℤ greatest
below_to x h = omega (arith, ints)

above_to : (x : ℤ) → x <ℤ greatest → (x +ℤ pos 1) ≤ℤ greatest
above_to x h = omega (arith, ints)

pub less_eq : (x y : ℤ) → x <ℤ y → x ≤ℤ y
less_eq x y h = omega (arith, ints)

pub same_le : (x : ℤ) → x ≤ℤ x
same_le x = omega (arith, ints)

risen : (x y : ℤ) → le_z x y ≡ true → x ≤ℤ y
risen x y h = omega (arith, ints)

exact_bound : (op : Op) → IsSound (bounds_of op)
exact_bound (Lt x) = by_small x (λ o. IsSound (option_map (λ v. bounds least (v -ℤ pos 1) true) o)) (λ l h e. sound least (x -ℤ pos 1) (below_from x l) (below_to x h)) tt
exact_bound (Le x) = by_small x (λ o. IsSound (option_map (λ v. bounds least v true) o)) (λ l h e. sound least x (less_eq least x l) (less_eq x greatest h)) tt
exact_bound (Eq x) = by_small x (λ o. IsSound (option_map (λ v. bounds v v true) o)) (λ l h e. sound x x (same_le x) (less_eq x greatest h)) tt
exact_bound (Ne x) = λ e. absurd cc
exact_bound (Ge x) = by_small x (λ o. IsSound (option_map (λ v. bounds v greatest true) o)) (λ l h e. sound x greatest (less_eq x greatest h) (same_le greatest)) tt
exact_bound (Gt x) = by_small x (λ o. IsSound (option_map (λ v. bounds (v +ℤ pos 1) greatest true) o)) (λ l h e. sound (x +ℤ pos 1) greatest (above_to x h) (same_le greatest)) tt
exact_bound (Between x y) =
    by_small x (λ o. IsSound (option_and_then (λ v. option_map (λ w. bounds v w (le_z v w)) (small y)) o))
    (λ l h. by_small y (λ o. IsSound (option_map (λ w. bounds x w (le_z x w)) o)) (λ m n e. sound x y (risen x y e) (less_eq y greatest n)) tt) tt
exact_bound (OneOf xs) =
    let x = first_of_values xs in
    let y = last_of_values xs in
    by_small x (λ o. IsSound (option_and_then (λ v. option_map (λ w. bounds v w false) (small y)) o))
    (λ l h. by_small y (λ o. IsSound (option_map (λ w. bounds x w false) o)) (λ m n e. absurd cc) tt) tt
exact_bound (NoneOf xs) = λ e. absurd cc

abbrev HasSound : Glance → Type 0
HasSound g = is_whole g.extent ≡ true → are_sound g.tests ≡ true

bounded_extent : (x : Extent) → is_whole x ≡ false → (g : Glance) → HasSound g → HasSound (with_extent x g)
bounded_extent x n g t = by_part (is_part g.extent)
  where
    by_part : (c : Bool) → HasSound (cond c g (glance g.tests x))
    by_part true = t
    by_part false = λ w. absurd cc

bounded_test : (x : Extent) → is_whole x ≡ false → (p : Pred) (b : Bounds) (g : Glance) → HasSound g → IsSound (Some b) → HasSound (with_test x p.attr b g)
bounded_test full n p b g t k = by_room (leb 256 p.attr.0 || leb 3 (length g.tests))
  where
    new : Test
    new = (p.attr, b.ends)

    by_room : (c : Bool) → HasSound (cond c (with_extent full g) (glance (g.tests ++ new ∷ []) (cond (b.exact || is_part g.extent) g.extent Few)))
    by_room true = bounded_extent full n g t
    by_room false = λ w. let y = wholly b.exact g.extent w in more_of_parts (λ (s : Test). is_sound s.1) g.tests new (t y.1) (k y.0)

bounded_bounds : (x : Extent) → is_whole x ≡ false → (p : Pred) (o : Option Bounds) (g : Glance) → HasSound g → IsSound o → HasSound (with_bounds x p.attr o g)
bounded_bounds x n p None g t k = bounded_extent x n g t
bounded_bounds x n p (Some b) g t k = bounded_test x n p b g t k

bounded_pred : (chosen : Narrowest) (few : Bool) (xs : List Pred) (p : Pred) (g : Glance) → HasSound g → HasSound (with_pred chosen few xs p g)
bounded_pred chosen few xs p g t = by_test (is_some (test_on p.attr g.tests))
  where
    by_test : (c : Bool) → HasSound (cond c (with_bounds Few p.attr (further_bounds few p) g) (with_bounds Part p.attr (narrow_bounds chosen xs p) g))
    by_test true = bounded_bounds Few refl p (further_bounds few p) g t (of_further IsSound tt few p (exact_bound p.op))
    by_test false = bounded_bounds Part refl p (narrow_bounds chosen xs p) g t (of_first IsSound tt chosen xs p (exact_bound p.op))

bounded_preds : (chosen : Narrowest) (xs ps : List Pred) (g : Glance) → HasSound g → HasSound (with_preds chosen xs ps g)
bounded_preds chosen xs [] g t = t
bounded_preds chosen xs (p ∷ ps) g t =
    let few = leb (length g.tests + length (p ∷ ps)) 3 in
    bounded_preds chosen (xs ++ p ∷ []) ps (with_pred chosen few xs p g) (bounded_pred chosen few xs p g t)

-- where the tests are all of the condition, none has turned ends
pub whole_sound : (conj : List Pred) (tests : List Test) (extent : Extent) → glance tests extent ≡ glance_of conj → is_whole extent ≡ true → are_sound tests ≡ true
whole_sound conj tests extent same = subst HasSound (sym same) (bounded_preds (narrowest_of conj) [] conj (glance [] Whole) (λ w. refl))
