-- What a place tells of its row is true of the row.
use Rattle.std.proofs.Common.{◌≡◌, ⊎_elim, ℤ, pos, ◌+ℤ◌, ◌-ℤ◌, ◌≤ℤ◌, ◌<ℤ◌, ◌+◌, leb, Bool, true, false, ◌&&◌, ◌||◌, List, [], ◌∷◌, ◌++◌, length, All, is_some, Option, Some, None, option_map, option_and_then, cond, refl, sym, ap, subst, ◌∙◌, arith}
use Rattle.std.specs.Int.Signed.{le_z, lt_z}
use Rattle.std.specs.Ordering.{int_eq}
use Rattle.std.specs.List.{list_any, list_all}
use Rattle.std.proofs.lemmas.Int.{ints}
use Rattle.std.proofs.lemmas.List.{append-nil, append_assoc}
use Rattle.std.proofs.lemmas.List.Elements.{All-head, All-tail}
use Rattle.std.proofs.lemmas.List.Folds.{list_all-append}
use Rattle.std.proofs.lemmas.Bool.{and_parts, or_cases, or_left, or_right}
use Rattle.std.proofs.lemmas.Bool.Decides.{Decides-int_eq}
use Rattle.be_model.specs.declared.ops.Op.{Op}
use Rattle.be_model.specs.declared.ops.Op.TheVariants.{Lt, Le, Eq, Ne, Ge, Gt, Between, OneOf, NoneOf}
use Rattle.be_model.specs.declared.preds.Pred.{Pred}
use Rattle.be_model.specs.Domains.{is_within}
use Rattle.be_model.specs.Forms.{OpForm, IsConj}
use Rattle.be_model.specs.Hulls.{first_of_values, last_of_values}
use Rattle.be_model.specs.Matching.{Assignments, values_of, holds, is_met, satisfies}
use Rattle.be_model.proofs.Ranges.{within_parts, within_from, hulls_hold}
use Rattle.be_shape.specs.declared.glances.Bounds.{Bounds}
use Rattle.be_shape.specs.declared.widths.Narrowest.{Narrowest}
use Rattle.be_shape.specs.declared.glances.Extent.{Extent}
use Rattle.be_shape.specs.declared.glances.Extent.TheVariants.{Whole, Few, Part}
use Rattle.be_shape.specs.Glances.{Glance, least, greatest, is_in, has_in, small, bounds, bounds_of, Test, passes, may_meet, test_on, is_whole, is_part, glance, with_extent, with_test, with_bounds, narrow_bounds, further_bounds, with_pred, with_preds, narrowest_of, glance_of}
use Rattle.be_shape.proofs.FirstBounds.{of_first, of_further}

pub both : (a b : Bool) → a ≡ true → b ≡ true → (a && b) ≡ true
both a b h k = ap (λ c. c && b) h ∙ k

pub le_test : (x y : ℤ) → x ≤ℤ y → le_z x y ≡ true
le_test x y h = by_test (le_z x y) refl
  where
    by_test : (b : Bool) → le_z x y ≡ b → b ≡ true
    by_test true e = refl
    by_test false e = absurd (omega (arith, ints))

pub equal_from : (x y : ℤ) → int_eq x y ≡ true → x ≡ y
equal_from x y h = (Decides-int_eq x y).0 h

-- a number above the least is no sign for no bound
low_says : (x v : ℤ) → least <ℤ x → (int_eq x least || le_z x v) ≡ true → x ≤ℤ v
low_says x v l h = ⊎_elim (λ e. let k = equal_from x least e in absurd (omega (arith, ints))) (λ e. omega (arith, ints)) (or_cases (int_eq x least) (le_z x v) h)

high_says : (x v : ℤ) → x <ℤ greatest → (int_eq x greatest || le_z v x) ≡ true → v ≤ℤ x
high_says x v l h = ⊎_elim (λ e. let k = equal_from x greatest e in absurd (omega (arith, ints))) (λ e. omega (arith, ints)) (or_cases (int_eq x greatest) (le_z v x) h)

low_from : (x v : ℤ) → x ≤ℤ v → (int_eq x least || le_z x v) ≡ true
low_from x v h = or_right (int_eq x least) (le_z x v) (le_test x v h)

high_from : (x v : ℤ) → v ≤ℤ x → (int_eq x greatest || le_z v x) ≡ true
high_from x v h = or_right (int_eq x greatest) (le_z v x) (le_test v x h)

pub in_from : (l h v : ℤ) → l ≤ℤ v → v ≤ℤ h → is_in (l, h) v ≡ true
in_from l h v a b = both (int_eq l least || le_z l v) (int_eq h greatest || le_z v h) (low_from l v a) (high_from h v b)

-- the comparison holds of nothing beyond the ends, and where it is exact, of all between them
record BoundsHold (op : Op) (b : Bounds) : Type 0 where
  inside : (v : ℤ) → holds op v ≡ true → is_in b.ends v ≡ true
  all : b.exact ≡ true → (v : ℤ) → is_in b.ends v ≡ true → holds op v ≡ true

abbrev Told : Op → Option Bounds → Type 0
Told op None = Unit {0}
Told op (Some b) = BoundsHold op b

pub by_small : (x : ℤ) (P : Option ℤ → Type 0) → (least <ℤ x → x <ℤ greatest → P (Some x)) → P None → P (small x)
by_small x P some none = by_tests (lt_z least x) (lt_z x greatest) refl refl
  where
    by_tests : (a b : Bool) → lt_z least x ≡ a → lt_z x greatest ≡ b → P (cond (a && b) (Some x) None)
    by_tests true true e f = some (omega (arith, ints)) (omega (arith, ints))
    by_tests true false e f = none
    by_tests false b e f = none

at_most : (l v w : ℤ) → w ≤ℤ v → l ≡ least → is_in (l, v) w ≡ true
at_most l v w h e = both (int_eq l least || le_z l w) (int_eq v greatest || le_z w v) (or_left (int_eq l least) (le_z l w) (ap (λ z. int_eq z least) e)) (high_from v w h)

at_least : (v h w : ℤ) → v ≤ℤ w → h ≡ greatest → is_in (v, h) w ≡ true
at_least v h w k e = both (int_eq v least || le_z v w) (int_eq h greatest || le_z w h) (low_from v w k) (or_left (int_eq h greatest) (le_z w h) (ap (λ z. int_eq z greatest) e))

in_parts : (l h v : ℤ) → is_in (l, h) v ≡ true → ((int_eq l least || le_z l v) ≡ true) × ((int_eq h greatest || le_z v h) ≡ true)
in_parts l h v k = and_parts (int_eq l least || le_z l v) (int_eq h greatest || le_z v h) k

pub lt_test : (x y : ℤ) → x <ℤ y → lt_z x y ≡ true
lt_test x y h = by_test (lt_z x y) refl
  where
    by_test : (b : Bool) → lt_z x y ≡ b → b ≡ true
    by_test true e = refl
    by_test false e = absurd (omega (arith, ints))

below : (x v : ℤ) → lt_z v x ≡ true → v ≤ℤ (x -ℤ pos 1)
below x v h = omega (arith, ints)

above : (x v : ℤ) → lt_z x v ≡ true → (x +ℤ pos 1) ≤ℤ v
above x v h = omega (arith, ints)

le_from : (x y : ℤ) → le_z x y ≡ true → x ≤ℤ y
le_from x y h = omega (arith, ints)

below_back : (x v : ℤ) → v ≤ℤ (x -ℤ pos 1) → v <ℤ x
below_back x v h = omega (arith, ints)

above_back : (x v : ℤ) → (x +ℤ pos 1) ≤ℤ v → x <ℤ v
above_back x v h = omega (arith, ints)

pub less_one : (x : ℤ) → x <ℤ greatest → (x -ℤ pos 1) <ℤ greatest
less_one x h = omega (arith, ints)

pub one_more : (x : ℤ) → least <ℤ x → least <ℤ (x +ℤ pos 1)
one_more x h = omega (arith, ints)

equal_to : (x v : ℤ) → x ≤ℤ v → v ≤ℤ x → x ≡ v
equal_to x v h k = omega (arith, ints)

equal_test : (x y : ℤ) → x ≡ y → int_eq x y ≡ true
equal_test x y e = (Decides-int_eq x y).1 e

le_refl : (x v : ℤ) → x ≡ v → x ≤ℤ v
le_refl x v e = omega (arith, ints)

set_in : (xs : List ℤ) (v : ℤ) → OpForm (OneOf xs) → holds (OneOf xs) v ≡ true → is_within (first_of_values xs, last_of_values xs) v ≡ true
set_in xs v f h = hulls_hold (v, v) (OneOf xs) v f (within_from (v, v) v (le_refl v v refl) (le_refl v v refl)) h

bounds_hold : (op : Op) → OpForm op → Told op (bounds_of op)
bounds_hold (Lt x) f =
    by_small x (λ o. Told (Lt x) (option_map (λ v. bounds least (v -ℤ pos 1) true) o))
    (λ l h. record { inside = λ v k. at_most least (x -ℤ pos 1) v (below x v k) refl; all = λ e v k. lt_test v x (below_back x v (high_says (x -ℤ pos 1) v (less_one x h) (in_parts least (x -ℤ pos 1) v k).1)) }) tt
bounds_hold (Le x) f =
    by_small x (λ o. Told (Le x) (option_map (λ v. bounds least v true) o))
    (λ l h. record { inside = λ v k. at_most least x v (le_from v x k) refl; all = λ e v k. le_test v x (high_says x v h (in_parts least x v k).1) }) tt
bounds_hold (Eq x) f =
    by_small x (λ o. Told (Eq x) (option_map (λ v. bounds v v true) o))
    (λ l h. record { inside = λ v k. in_from x x v (le_refl x v (sym (equal_from v x k))) (le_refl v x (equal_from v x k)); all = λ e v k. equal_test v x (sym (equal_to x v (low_says x v l (in_parts x x v k).0) (high_says x v h (in_parts x x v k).1))) }) tt
bounds_hold (Ne x) f = record { inside = λ v k. refl; all = λ e v k. absurd (cc) }
bounds_hold (Ge x) f =
    by_small x (λ o. Told (Ge x) (option_map (λ v. bounds v greatest true) o))
    (λ l h. record { inside = λ v k. at_least x greatest v (le_from x v k) refl; all = λ e v k. le_test x v (low_says x v l (in_parts x greatest v k).0) }) tt
bounds_hold (Gt x) f =
    by_small x (λ o. Told (Gt x) (option_map (λ v. bounds (v +ℤ pos 1) greatest true) o))
    (λ l h. record { inside = λ v k. at_least (x +ℤ pos 1) greatest v (above x v k) refl; all = λ e v k. lt_test x v (above_back x v (low_says (x +ℤ pos 1) v (one_more x l) (in_parts (x +ℤ pos 1) greatest v k).0)) }) tt
bounds_hold (Between x y) f =
    by_small x (λ o. Told (Between x y) (option_and_then (λ v. option_map (λ w. bounds v w (le_z v w)) (small y)) o))
    (λ l h. by_small y (λ o. Told (Between x y) (option_map (λ w. bounds x w (le_z x w)) o))
    (λ m n. record { inside = λ v k. (let z = within_parts (x, y) v k in in_from x y v z.0 z.1); all = λ e v k. within_from (x, y) v (low_says x v l (in_parts x y v k).0) (high_says y v n (in_parts x y v k).1) }) tt) tt
bounds_hold (OneOf xs) f =
    let x = first_of_values xs in
    let y = last_of_values xs in
    by_small x (λ o. Told (OneOf xs) (option_and_then (λ v. option_map (λ w. bounds v w false) (small y)) o))
    (λ l h. by_small y (λ o. Told (OneOf xs) (option_map (λ w. bounds x w false) o))
    (λ m n. record { inside = λ v k. (let z = within_parts (x, y) v (set_in xs v f k) in in_from x y v z.0 z.1); all = λ e v k. absurd (cc) }) tt) tt
bounds_hold (NoneOf xs) f = record { inside = λ v k. refl; all = λ e v k. absurd (cc) }

pub any_more : (p q : ℤ → Bool) (vs : List ℤ) → ((v : ℤ) → p v ≡ true → q v ≡ true) → list_any p vs ≡ true → list_any q vs ≡ true
any_more p q [] f h = h
any_more p q (v ∷ vs) f h =
    ⊎_elim (λ e. or_left (q v) (list_any q vs) (f v e)) (λ e. or_right (q v) (list_any q vs) (any_more p q vs f e)) (or_cases (p v) (list_any p vs) h)

-- an event that meets a comparison has a value between its ends, and where these are exact, the other way round
has_if_met : (op : Op) (b : Bounds) (o : Option (List ℤ)) → BoundsHold op b → is_met o op ≡ true → has_in b.ends o ≡ true
has_if_met op b None t h = absurd (cc)
has_if_met op b (Some vs) t h = any_more (holds op) (is_in b.ends) vs t.inside h

met_if_has : (op : Op) (b : Bounds) (o : Option (List ℤ)) → BoundsHold op b → b.exact ≡ true → has_in b.ends o ≡ true → is_met o op ≡ true
met_if_has op b None t x h = absurd (cc)
met_if_has op b (Some vs) t x h = any_more (is_in b.ends) (holds op) vs (t.all x) h

-- a glance is true of a condition
record Tells (conj : List Pred) (g : Glance) : Type 0 where
  lost : (e : Assignments) → satisfies e conj ≡ true → may_meet e g.tests ≡ true
  all : is_whole g.extent ≡ true → (e : Assignments) → may_meet e g.tests ≡ true → satisfies e conj ≡ true

all_more : {X : Type 0} (p : X → Bool) (xs : List X) (x : X) → list_all p (xs ++ x ∷ []) ≡ (list_all p xs && p x)
all_more p xs x = list_all-append p xs (x ∷ []) ∙ ap (λ b. list_all p xs && b) (and_true (p x))
  where
    and_true : (b : Bool) → (b && true) ≡ b
    and_true true = refl
    and_true false = refl

parts_of_more : {X : Type 0} (p : X → Bool) (xs : List X) (x : X) → list_all p (xs ++ x ∷ []) ≡ true → (list_all p xs ≡ true) × (p x ≡ true)
parts_of_more p xs x h = and_parts (list_all p xs) (p x) (sym (all_more p xs x) ∙ h)

pub more_of_parts : {X : Type 0} (p : X → Bool) (xs : List X) (x : X) → list_all p xs ≡ true → p x ≡ true → list_all p (xs ++ x ∷ []) ≡ true
more_of_parts p xs x h k = all_more p xs x ∙ both (list_all p xs) (p x) h k

abbrev meets_pred : Assignments → Pred → Bool
meets_pred e p = is_met (values_of e p.attr) p.op

-- with the same tests, which then aren't all
tells_less : (xs : List Pred) (p : Pred) (g : Glance) (x : Extent) → is_whole x ≡ false → Tells xs g → Tells (xs ++ p ∷ []) (glance g.tests x)
tells_less xs p g x n t = record { lost = λ e h. t.lost e (parts_of_more (meets_pred e) xs p h).0; all = λ w e h. absurd (cc) }

part_of_whole : (x : Extent) → is_part x ≡ true → is_whole x ≡ false
part_of_whole Whole h = absurd (cc)
part_of_whole Few h = refl
part_of_whole Part h = refl

tells_extent : (x : Extent) → is_whole x ≡ false → (xs : List Pred) (p : Pred) (g : Glance) → Tells xs g → Tells (xs ++ p ∷ []) (with_extent x g)
tells_extent x n xs p g t = by_part (is_part g.extent) refl
  where
    by_part : (c : Bool) → is_part g.extent ≡ c → Tells (xs ++ p ∷ []) (cond c g (glance g.tests x))
    by_part true e = tells_less xs p g g.extent (part_of_whole g.extent e) t
    by_part false e = tells_less xs p g x n t

-- tests are all of a condition only where the last one is exact
pub wholly : (exact : Bool) (x : Extent) → is_whole (cond (exact || is_part x) x Few) ≡ true → (exact ≡ true) × (is_whole x ≡ true)
wholly true x h = (refl, h)
wholly false Whole h = absurd (cc)
wholly false Few h = absurd (cc)
wholly false Part h = absurd (cc)

tells_test : (x : Extent) → is_whole x ≡ false → (xs : List Pred) (p : Pred) (b : Bounds) (g : Glance) → Tells xs g → BoundsHold p.op b → Tells (xs ++ p ∷ []) (with_test x p.attr b g)
tells_test full n xs p b g t k = by_room (leb 256 p.attr.0 || leb 3 (length g.tests))
  where
    new : Test
    new = (p.attr, b.ends)

    by_room : (c : Bool) → Tells (xs ++ p ∷ []) (cond c (with_extent full g) (glance (g.tests ++ new ∷ []) (cond (b.exact || is_part g.extent) g.extent Few)))
    by_room true = tells_extent full n xs p g t
    by_room false =
        record {
          lost = λ e h.
              (let z = parts_of_more (meets_pred e) xs p h in
              more_of_parts (passes e) g.tests new (t.lost e z.0) (has_if_met p.op b (values_of e p.attr) k z.1));
          all = λ w e h.
              (let y = wholly b.exact g.extent w in
              let z = parts_of_more (passes e) g.tests new h in
              more_of_parts (meets_pred e) xs p (t.all y.1 e z.0) (met_if_has p.op b (values_of e p.attr) k y.0 z.1));
        }

tells_bounds : (x : Extent) → is_whole x ≡ false → (xs : List Pred) (p : Pred) (o : Option Bounds) (g : Glance) → Tells xs g → Told p.op o → Tells (xs ++ p ∷ []) (with_bounds x p.attr o g)
tells_bounds x n xs p None g t k = tells_extent x n xs p g t
tells_bounds x n xs p (Some b) g t k = tells_test x n xs p b g t k

tells_pred : (chosen : Narrowest) (few : Bool) (xs : List Pred) (p : Pred) (g : Glance) → OpForm p.op → Tells xs g → Tells (xs ++ p ∷ []) (with_pred chosen few xs p g)
tells_pred chosen few xs p g f t = by_test (is_some (test_on p.attr g.tests))
  where
    by_test : (c : Bool) → Tells (xs ++ p ∷ []) (cond c (with_bounds Few p.attr (further_bounds few p) g) (with_bounds Part p.attr (narrow_bounds chosen xs p) g))
    by_test true = tells_bounds Few refl xs p (further_bounds few p) g t (of_further (Told p.op) tt few p (bounds_hold p.op f))
    by_test false = tells_bounds Part refl xs p (narrow_bounds chosen xs p) g t (of_first (Told p.op) tt chosen xs p (bounds_hold p.op f))

tells_preds : (chosen : Narrowest) (xs ps : List Pred) (g : Glance) → All (λ (p : Pred). OpForm p.op) ps → Tells xs g → Tells (xs ++ ps) (with_preds chosen xs ps g)
tells_preds chosen xs [] g f t = subst (λ c. Tells c g) (sym (append-nil xs)) t
tells_preds chosen xs (p ∷ ps) g f t =
    let next = with_pred chosen (leb (length g.tests + length (p ∷ ps)) 3) xs p g in
    subst (λ c. Tells c (with_preds chosen (xs ++ p ∷ []) ps next)) (append_assoc xs (p ∷ []) ps)
    (tells_preds chosen (xs ++ p ∷ []) ps next (All-tail (λ (q : Pred). OpForm q.op) p ps f)
    (tells_pred chosen (leb (length g.tests + length (p ∷ ps)) 3) xs p g (All-head (λ (q : Pred). OpForm q.op) p ps f) t))

tells : (conj : List Pred) → IsConj conj → Tells conj (glance_of conj)
tells conj f = tells_preds (narrowest_of conj) [] conj (glance [] Whole) f.forms (record { lost = λ e h. refl; all = λ w e h. refl })

-- an event satisfies a condition exactly where it passes the tests, and these are all or it satisfies the condition
pub told : (e : Assignments) (conj : List Pred) (tests : List Test) (extent : Extent) → glance tests extent ≡ glance_of conj → IsConj conj
    → satisfies e conj ≡ (may_meet e tests && (is_whole extent || satisfies e conj))
told e conj tests extent same f = by_tests (satisfies e conj) (may_meet e tests) (is_whole extent) refl refl refl
  where
    t : Tells conj (glance tests extent)
    t = subst (Tells conj) (sym same) (tells conj f)

    by_tests : (s m w : Bool) → satisfies e conj ≡ s → may_meet e tests ≡ m → is_whole extent ≡ w → s ≡ (m && (w || s))
    by_tests true true true a b c = refl
    by_tests true true false a b c = refl
    by_tests true false w a b c = absurd (let z = t.lost e a in cc)
    by_tests false true true a b c = absurd (let z = t.all c e b in cc)
    by_tests false true false a b c = refl
    by_tests false false w a b c = refl
