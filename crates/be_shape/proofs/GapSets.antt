-- What the gaps of a small set let pass.
use Rattle.std.proofs.Common.{◌≡◌, ◌⊎◌, ⊎_elim, inl, inr, ℕ, ℤ, pos, ◌≤ℤ◌, ◌<ℤ◌, ◌+◌, ◌-◌, ◌≤◌, ◌<◌, Bool, true, false, ◌&&◌, ◌||◌, List, [], ◌∷◌, length, get_or, Option, Some, None, IfSome, refl, sym, ap, ap₂, subst, ◌∙◌, arith}
use Rattle.std.specs.Int.Signed.{le_z, lt_z}
use Rattle.std.specs.Ordering.{int_eq}
use Rattle.std.proofs.lemmas.Int.{ints}
use Rattle.std.proofs.lemmas.Bool.{le-leb, leb-true, eq-eqb, and_parts, or_cases, or_left, or_right}
use Rattle.std.proofs.lemmas.Bool.Decides.{Decides-int_eq}
use Rattle.be_model.specs.declared.ops.Op.TheVariants.{OneOf}
use Rattle.be_model.specs.declared.preds.Pred.{Pred}
use Rattle.be_model.specs.Matching.{Assignments, values_of, is_among, is_met, satisfies}
use Rattle.be_base.specs.declared.names.AttrNo.{AttrNo}
use Rattle.be_model.specs.Schemas.{numbered}
use Rattle.be_model.proofs.InSchema.{same_attribute}
use Rattle.be_shape.specs.Glances.{least, greatest, Test}
use Rattle.be_shape.specs.Lanes.{raised, less, lets, slot_of, ends_of, free, seen, Slot, Lane, Few, is_single, HoldLanes}
use Rattle.be_shape.specs.declared.test_counts.Count.{Count}
use Rattle.be_shape.specs.declared.test_counts.Count.TheVariants.{One}
use Rattle.be_shape.specs.declared.small_sets.Told.{Told}
use Rattle.be_shape.specs.declared.small_sets.Told.TheVariants.{AsFew, IsSet}
use Rattle.be_shape.specs.FewTests.{few_of}
use Rattle.be_shape.specs.Gaps.{AreTwo, AreThree, AreGaps, TellSet, IsOnlySet}
use Rattle.be_shape.proofs.Slots.{IsSmall, IsSlot, slot_again, raised_is, less_up, less_round, lets_if_in, in_if_lets, lets_free}
use Rattle.be_shape.proofs.SightValues.{maybe_single}
use Rattle.be_shape.proofs.ToldTests.{both, equal_from}
use Rattle.be_shape.proofs.ToldLanes.{seen_fits, low_back, none_beyond, one_seen, one_small, lane_single, three, three_parts}

-- the lists of two and of three
pub two_gaps : (xs ys : List ℤ) (ends : ℤ × ℤ) (o : Option (Slot × Slot)) → ys ≡ xs → 2 ≤ length ys → length ys < 3
    → IfSome o (λ gaps. AreTwo (get_or ys 0 (pos 0)) (get_or ys 1 (pos 0)) ends × (gaps ≡ (slot_of (ends.1, ends.0), free)))
    → IfSome o (λ gaps. AreGaps xs ends gaps)
two_gaps [] ys ends o e a b i = absurd (omega (arith, a, ap length e))
two_gaps (x ∷ []) ys ends o e a b i = absurd (omega (arith, a, ap length e))
two_gaps (x ∷ z ∷ []) ys ends o e a b i =
    subst (λ (l : List ℤ). IfSome o (λ gaps. AreTwo (get_or l 0 (pos 0)) (get_or l 1 (pos 0)) ends × (gaps ≡ (slot_of (ends.1, ends.0), free)))) e i
two_gaps (x ∷ y ∷ z ∷ more) ys ends o e a b i = absurd (omega (arith, b, ap length e))

pub three_gaps : (xs ys : List ℤ) (ends : ℤ × ℤ) (o : Option (Slot × Slot)) → ys ≡ xs → 3 ≤ length ys → length ys < 4
    → IfSome o (λ gaps. AreThree (get_or ys 0 (pos 0)) (get_or ys 1 (pos 0)) (get_or ys 2 (pos 0)) ends × (gaps ≡ (slot_of (get_or ys 1 (pos 0), ends.0), slot_of (ends.1, get_or ys 1 (pos 0)))))
    → IfSome o (λ gaps. AreGaps xs ends gaps)
three_gaps [] ys ends o e a b i = absurd (omega (arith, a, ap length e))
three_gaps (x ∷ []) ys ends o e a b i = absurd (omega (arith, a, ap length e))
three_gaps (x ∷ y ∷ []) ys ends o e a b i = absurd (omega (arith, a, ap length e))
three_gaps (x ∷ y ∷ z ∷ []) ys ends o e a b i =
    subst (λ (l : List ℤ). IfSome o (λ gaps. AreThree (get_or l 0 (pos 0)) (get_or l 1 (pos 0)) (get_or l 2 (pos 0)) ends × (gaps ≡ (slot_of (get_or l 1 (pos 0), ends.0), slot_of (ends.1, get_or l 1 (pos 0)))))) e i
three_gaps (x ∷ y ∷ z ∷ w ∷ more) ys ends o e a b i = absurd (omega (arith, b, ap length e))

-- what is beyond two numbers is in the slot of the turned ends
pub beyond_lets : (x y v : ℤ) → IsSmall x → IsSmall y → IsSmall v → x <ℤ y → (v ≤ℤ x) ⊎ (y ≤ℤ v) → lets (raised v) (slot_of (y, x)) ≡ true
beyond_lets x y v a b s r h = le-leb (less (raised v) (raised y)) (less (raised x) (raised y)) (⊎_elim low high h)
  where
    f : less (raised x) (raised y) ≡ raised x + (4294967296 - raised y)
    f = less_round (raised x) (raised y) (omega (arith, ints, raised_is x a, raised_is y b, r)) (omega (arith, ints, raised_is y b, b.to))

    low : v ≤ℤ x → less (raised v) (raised y) ≤ less (raised x) (raised y)
    low k =
        let g : less (raised v) (raised y) ≡ raised v + (4294967296 - raised y) = less_round (raised v) (raised y) (omega (arith, ints, raised_is v s, raised_is x a, raised_is y b, r, k)) (omega (arith, ints, raised_is y b, b.to)) in
        omega (arith, ints, f, g, k, raised_is v s, raised_is x a)

    high : y ≤ℤ v → less (raised v) (raised y) ≤ less (raised x) (raised y)
    high k =
        let g : less (raised v) (raised y) ≡ raised v - raised y = less_up (raised v) (raised y) (omega (arith, ints, raised_is v s, raised_is y b, k)) (omega (arith, ints, raised_is v s, s.to)) in
        omega (arith, ints, f, g, k, raised_is v s, raised_is x a, raised_is y b, s.to, a.from, b.to)

pub beyond_says : (x y v : ℤ) → IsSmall x → IsSmall y → IsSmall v → x <ℤ y → lets (raised v) (slot_of (y, x)) ≡ true → (v ≤ℤ x) ⊎ (y ≤ℤ v)
beyond_says x y v a b s r h = by_side (le_z y v) refl
  where
    k : less (raised v) (raised y) ≤ less (raised x) (raised y)
    k = leb-true (less (raised v) (raised y)) (less (raised x) (raised y)) h

    f : less (raised x) (raised y) ≡ raised x + (4294967296 - raised y)
    f = less_round (raised x) (raised y) (omega (arith, ints, raised_is x a, raised_is y b, r)) (omega (arith, ints, raised_is y b, b.to))

    under : v <ℤ y → v ≤ℤ x
    under m =
        let g : less (raised v) (raised y) ≡ raised v + (4294967296 - raised y) = less_round (raised v) (raised y) (omega (arith, ints, raised_is v s, raised_is y b, m)) (omega (arith, ints, raised_is y b, b.to)) in
        omega (arith, ints, f, g, k, raised_is v s, raised_is x a, raised_is y b, b.to)

    by_side : (c : Bool) → le_z y v ≡ c → (v ≤ℤ x) ⊎ (y ≤ℤ v)
    by_side true e = inr (omega (arith, ints, e))
    by_side false e = inl (under (omega (arith, ints, e)))

-- a number among three, and among two
pub among_three : (x y z v : ℤ) → is_among (x ∷ y ∷ z ∷ []) v ≡ true → (x ≡ v) ⊎ ((y ≡ v) ⊎ (z ≡ v))
among_three x y z v h =
    ⊎_elim (λ k. inl (equal_from x v k))
    (λ k. ⊎_elim (λ m. inr (inl (equal_from y v m))) (λ m. ⊎_elim (λ n. inr (inr (equal_from z v n))) (λ n. absurd cc) (or_cases (int_eq z v) false m)) (or_cases (int_eq y v) (int_eq z v || false) k))
    (or_cases (int_eq x v) (int_eq y v || (int_eq z v || false)) h)

pub among_two : (x z v : ℤ) → is_among (x ∷ z ∷ []) v ≡ true → (x ≡ v) ⊎ (z ≡ v)
among_two x z v h =
    ⊎_elim (λ k. inl (equal_from x v k)) (λ m. ⊎_elim (λ n. inr (equal_from z v n)) (λ n. absurd cc) (or_cases (int_eq z v) false m)) (or_cases (int_eq x v) (int_eq z v || false) h)

same_test : (x v : ℤ) → x ≡ v → int_eq x v ≡ true
same_test x v e = (Decides-int_eq x v).1 e

from_three : (x y z v : ℤ) → (x ≡ v) ⊎ ((y ≡ v) ⊎ (z ≡ v)) → is_among (x ∷ y ∷ z ∷ []) v ≡ true
from_three x y z v h =
    ⊎_elim (λ k. or_left (int_eq x v) (int_eq y v || (int_eq z v || false)) (same_test x v k))
    (λ k. or_right (int_eq x v) (int_eq y v || (int_eq z v || false)) (⊎_elim (λ m. or_left (int_eq y v) (int_eq z v || false) (same_test y v m)) (λ m. or_right (int_eq y v) (int_eq z v || false) (or_left (int_eq z v) false (same_test z v m))) k)) h

from_two : (x z v : ℤ) → (x ≡ v) ⊎ (z ≡ v) → is_among (x ∷ z ∷ []) v ≡ true
from_two x z v h =
    ⊎_elim (λ k. or_left (int_eq x v) (int_eq z v || false) (same_test x v k)) (λ m. or_right (int_eq x v) (int_eq z v || false) (or_left (int_eq z v) false (same_test z v m))) h

pub one_value : (xs : List ℤ) (v : ℤ) → is_met (Some (v ∷ [])) (OneOf xs) ≡ true → is_among xs v ≡ true
one_value xs v h = ⊎_elim (λ k. k) (λ k. absurd cc) (or_cases (is_among xs v) false h)

pub value_small : (v : ℤ) → is_single (v ∷ []) ≡ true → IsSmall v
value_small v h = let p = and_parts (lt_z least v) (lt_z v greatest) h in one_small v (omega (arith, ints, p.0)) (omega (arith, ints, p.1))

-- the value of an attribute whose lane lets it pass is between the ends
between : (ends : ℤ × ℤ) (o : Option (List ℤ)) (P : Type 0) → IsSmall ends.0 → IsSmall ends.1 → ends.0 ≤ℤ ends.1 → ends.1 ≤ℤ greatest → maybe_single o ≡ true → lets (seen o) (slot_of ends) ≡ true
    → ((v : ℤ) → o ≡ Some (v ∷ []) → IsSmall v → seen o ≡ raised v → ends.0 ≤ℤ v → v ≤ℤ ends.1 → P) → P
between ends None P a b r g s h f = absurd (none_beyond ends.1 b g (in_if_lets ends 4294967295 a b (omega arith) r h).1)
between ends (Some []) P a b r g s h f = absurd cc
between ends (Some (v ∷ [])) P a b r g s h f =
    let small = value_small v s in
    let k : lets (raised v) (slot_of ends) ≡ true = ap (λ x. lets x (slot_of ends)) (sym (one_seen v s)) ∙ h in
    let fits : raised v < 4294967296 = omega (arith, ints, raised_is v small, small.to) in
    let i = in_if_lets ends (raised v) a b fits r k in
    f v refl small (one_seen v s) (low_back ends.0 v a small i.0) (low_back v ends.1 small b i.1)
between ends (Some (v ∷ w ∷ vs)) P a b r g s h f = absurd cc

abbrev three_lets : ℕ → ℤ × ℤ → ℤ → ℤ → ℤ → Bool
three_lets n ends x y z = lets n (slot_of ends) && (lets n (slot_of (y, x)) && lets n (slot_of (z, y)))

middle_small : (x y z : ℤ) → IsSmall x → IsSmall z → x <ℤ y → y <ℤ z → IsSmall y
middle_small x y z a b h k = record { from = omega (arith, ints, a.from, h); to = omega (arith, ints, b.to, k) }

three_kept : (x y z : ℤ) (ends : ℤ × ℤ) → AreThree x y z ends → IsSmall ends.0 → IsSmall ends.1 → (o : Option (List ℤ)) → maybe_single o ≡ true → is_met o (OneOf (x ∷ y ∷ z ∷ [])) ≡ true → three_lets (seen o) ends x y z ≡ true
three_kept x y z ends t a b None s h = absurd cc
three_kept x y z ends t a b (Some []) s h = absurd cc
three_kept x y z ends t a b (Some (v ∷ [])) s h =
    let small = value_small v s in
    let xs : IsSmall x = subst IsSmall t.low a in
    let zs : IsSmall z = subst IsSmall t.high b in
    let ys = middle_small x y z xs zs t.rise t.again in
    let among = among_three x y z v (one_value (x ∷ y ∷ z ∷ []) v h) in
    let from : ends.0 ≤ℤ v = ⊎_elim (λ k. omega (arith, ints, k, t.low)) (λ k. ⊎_elim (λ m. omega (arith, ints, m, t.low, t.rise)) (λ m. omega (arith, ints, m, t.low, t.rise, t.again)) k) among in
    let to : v ≤ℤ ends.1 = ⊎_elim (λ k. omega (arith, ints, k, t.high, t.rise, t.again)) (λ k. ⊎_elim (λ m. omega (arith, ints, m, t.high, t.again)) (λ m. omega (arith, ints, m, t.high)) k) among in
    let first : (v ≤ℤ x) ⊎ (y ≤ℤ v) = ⊎_elim (λ k. inl (omega (arith, ints, k))) (λ k. inr (⊎_elim (λ m. omega (arith, ints, m)) (λ m. omega (arith, ints, m, t.again)) k)) among in
    let second : (v ≤ℤ y) ⊎ (z ≤ℤ v) = ⊎_elim (λ k. inl (omega (arith, ints, k, t.rise))) (λ k. ⊎_elim (λ m. inl (omega (arith, ints, m))) (λ m. inr (omega (arith, ints, m))) k) among in
    ap (λ n. three_lets n ends x y z) (one_seen v s)
    ∙ three (lets (raised v) (slot_of ends)) (lets (raised v) (slot_of (y, x))) (lets (raised v) (slot_of (z, y))) (lets_if_in ends v a b small from to) (beyond_lets x y v xs ys small t.rise first) (beyond_lets y z v ys zs small t.again second)
three_kept x y z ends t a b (Some (v ∷ w ∷ vs)) s h = absurd cc

met_one : (xs : List ℤ) (v : ℤ) (o : Option (List ℤ)) → o ≡ Some (v ∷ []) → is_among xs v ≡ true → is_met o (OneOf xs) ≡ true
met_one xs v o e h = ap (λ p. is_met p (OneOf xs)) e ∙ or_left (is_among xs v) false h

three_said : (x y z : ℤ) (ends : ℤ × ℤ) → AreThree x y z ends → IsSmall ends.0 → IsSmall ends.1 → (o : Option (List ℤ)) → maybe_single o ≡ true → three_lets (seen o) ends x y z ≡ true → is_met o (OneOf (x ∷ y ∷ z ∷ [])) ≡ true
three_said x y z ends t a b o s h =
    let p = three_parts (lets (seen o) (slot_of ends)) (lets (seen o) (slot_of (y, x))) (lets (seen o) (slot_of (z, y))) h in
    let xs : IsSmall x = subst IsSmall t.low a in
    let zs : IsSmall z = subst IsSmall t.high b in
    let ys = middle_small x y z xs zs t.rise t.again in
    between ends o (is_met o (OneOf (x ∷ y ∷ z ∷ [])) ≡ true) a b (omega (arith, ints, t.low, t.high, t.rise, t.again)) (omega (arith, ints, t.high, t.small)) s p.0
    (λ v is small e from to.
    let first = beyond_says x y v xs ys small t.rise (ap (λ n. lets n (slot_of (y, x))) (sym e) ∙ p.1) in
    let second = beyond_says y z v ys zs small t.again (ap (λ n. lets n (slot_of (z, y))) (sym e) ∙ p.2) in
    met_one (x ∷ y ∷ z ∷ []) v o is
    (from_three x y z v
    (⊎_elim (λ k. inl (omega (arith, ints, k, from, t.low)))
    (λ k. inr (⊎_elim (λ m. inl (omega (arith, ints, k, m))) (λ m. inr (omega (arith, ints, m, to, t.high))) second)) first)))

abbrev two_lets : ℕ → ℤ × ℤ → ℤ → ℤ → Bool
two_lets n ends x z = lets n (slot_of ends) && (lets n (slot_of (z, x)) && lets n free)

seen_fits_all : (o : Option (List ℤ)) → maybe_single o ≡ true → lets (seen o) free ≡ true
seen_fits_all o s = lets_free (seen o) (seen_fits o s)

two_kept : (x z : ℤ) (ends : ℤ × ℤ) → AreTwo x z ends → IsSmall ends.0 → IsSmall ends.1 → (o : Option (List ℤ)) → maybe_single o ≡ true → is_met o (OneOf (x ∷ z ∷ [])) ≡ true → two_lets (seen o) ends x z ≡ true
two_kept x z ends t a b None s h = absurd cc
two_kept x z ends t a b (Some []) s h = absurd cc
two_kept x z ends t a b (Some (v ∷ [])) s h =
    let small = value_small v s in
    let xs : IsSmall x = subst IsSmall t.low a in
    let zs : IsSmall z = subst IsSmall t.high b in
    let among = among_two x z v (one_value (x ∷ z ∷ []) v h) in
    let from : ends.0 ≤ℤ v = ⊎_elim (λ k. omega (arith, ints, k, t.low)) (λ m. omega (arith, ints, m, t.low, t.rise)) among in
    let to : v ≤ℤ ends.1 = ⊎_elim (λ k. omega (arith, ints, k, t.high, t.rise)) (λ m. omega (arith, ints, m, t.high)) among in
    let first : (v ≤ℤ x) ⊎ (z ≤ℤ v) = ⊎_elim (λ k. inl (omega (arith, ints, k))) (λ m. inr (omega (arith, ints, m))) among in
    three (lets (seen (Some (v ∷ []))) (slot_of ends)) (lets (seen (Some (v ∷ []))) (slot_of (z, x))) (lets (seen (Some (v ∷ []))) free)
    (ap (λ n. lets n (slot_of ends)) (one_seen v s) ∙ lets_if_in ends v a b small from to) (ap (λ n. lets n (slot_of (z, x))) (one_seen v s) ∙ beyond_lets x z v xs zs small t.rise first) (seen_fits_all (Some (v ∷ [])) s)
two_kept x z ends t a b (Some (v ∷ w ∷ vs)) s h = absurd cc

two_said : (x z : ℤ) (ends : ℤ × ℤ) → AreTwo x z ends → IsSmall ends.0 → IsSmall ends.1 → (o : Option (List ℤ)) → maybe_single o ≡ true → two_lets (seen o) ends x z ≡ true → is_met o (OneOf (x ∷ z ∷ [])) ≡ true
two_said x z ends t a b o s h =
    let p = three_parts (lets (seen o) (slot_of ends)) (lets (seen o) (slot_of (z, x))) (lets (seen o) free) h in
    let xs : IsSmall x = subst IsSmall t.low a in
    let zs : IsSmall z = subst IsSmall t.high b in
    between ends o (is_met o (OneOf (x ∷ z ∷ [])) ≡ true) a b (omega (arith, ints, t.low, t.high, t.rise)) (omega (arith, ints, t.high, t.small)) s p.0
    (λ v is small e from to.
    let first = beyond_says x z v xs zs small t.rise (ap (λ n. lets n (slot_of (z, x))) (sym e) ∙ p.1) in
    met_one (x ∷ z ∷ []) v o is (from_two x z v (⊎_elim (λ k. inl (omega (arith, ints, k, from, t.low))) (λ k. inr (omega (arith, ints, k, to, t.high))) first)))

-- a set of two or three numbers, for whichever values of the attribute
record TellValues (xs : List ℤ) (ends : ℤ × ℤ) (gaps : Slot × Slot) : Type 0 where
  kept : (o : Option (List ℤ)) → maybe_single o ≡ true → is_met o (OneOf xs) ≡ true → (lets (seen o) (slot_of ends) && (lets (seen o) gaps.0 && lets (seen o) gaps.1)) ≡ true
  said : (o : Option (List ℤ)) → maybe_single o ≡ true → (lets (seen o) (slot_of ends) && (lets (seen o) gaps.0 && lets (seen o) gaps.1)) ≡ true → is_met o (OneOf xs) ≡ true

tell_values : (xs : List ℤ) (ends : ℤ × ℤ) (gaps : Slot × Slot) → IsSmall ends.0 → IsSmall ends.1 → AreGaps xs ends gaps → TellValues xs ends gaps
tell_values [] ends gaps a b g = absurd g
tell_values (x ∷ []) ends gaps a b g = absurd g
tell_values (x ∷ z ∷ []) ends gaps a b g = subst (TellValues (x ∷ z ∷ []) ends) (sym (g.1 ∙ ap₂ (λ u w. (slot_of (w, u), free)) g.0.low g.0.high)) (record { kept = two_kept x z ends g.0 a b; said = two_said x z ends g.0 a b })
tell_values (x ∷ y ∷ z ∷ []) ends gaps a b g = subst (TellValues (x ∷ y ∷ z ∷ []) ends) (sym (g.1 ∙ ap₂ (λ u w. (slot_of (y, u), slot_of (w, y))) g.0.low g.0.high)) (record { kept = three_kept x y z ends g.0 a b; said = three_said x y z ends g.0 a b })
tell_values (x ∷ y ∷ z ∷ w ∷ more) ends gaps a b g = absurd g

-- the lanes of a set tell of its predicate
pub tell_set : (pred : Pred) (xs : List ℤ) (a : ℕ) (ends : ℤ × ℤ) (gaps : Slot × Slot) → pred.op ≡ OneOf xs → pred.attr ≡ numbered a → IsSmall ends.0 → IsSmall ends.1 → AreGaps xs ends gaps
    → TellSet pred (a, slot_of ends) (a, gaps.0) (a, gaps.1)
tell_set pred xs a ends gaps op at l h g =
    let t = tell_values xs ends gaps l h g in
    record {
      kept = λ e s k.
          (let same = ap (λ b. is_met (values_of e b) pred.op) (sym at) ∙ k in
          t.kept (values_of e (numbered a)) (lane_single e (a, free) s) (sym (ap (is_met (values_of e (numbered a))) op) ∙ same));
      said = λ e s k.
          (let met = t.said (values_of e (numbered a)) (lane_single e (a, free) s) k in
          ap (λ b. is_met (values_of e b) pred.op) at ∙ ap (is_met (values_of e (numbered a))) op ∙ met);
    }

pub by_number : (a : AttrNo) (n : ℕ) → a.0 ≡ n → a ≡ numbered n
by_number a n h = same_attribute a (numbered n) (eq-eqb a.0 n h)

pub tell_gaps : (pred : Pred) (xs : List ℤ) (a : ℕ) (ends : ℤ × ℤ) (o : Option (Slot × Slot)) → pred.op ≡ OneOf xs → pred.attr.0 ≡ a → IsSmall ends.0 → IsSmall ends.1 → IfSome o (λ gaps. AreGaps xs ends gaps)
    → IfSome o (λ gaps. TellSet pred (a, slot_of ends) (a, gaps.0) (a, gaps.1))
tell_gaps pred xs a ends None op at l h g = tt
tell_gaps pred xs a ends (Some gaps) op at l h g = tell_set pred xs a ends gaps op (by_number pred.attr a at) l h g

one_pred : (ps : List Pred) (pred : Pred) → 1 ≤ length ps → length ps < 2 → pred ≡ get_or ps 0 pred → ps ≡ pred ∷ []
one_pred [] pred a b e = absurd (omega (arith, a))
one_pred (p ∷ []) pred a b e = ap (λ q. q ∷ []) (sym e)
one_pred (p ∷ q ∷ ps) pred a b e = absurd (omega (arith, b))

one_test : (count : Count) (x y z : Lane) → count ≡ One → length (few_of count x y z).tests ≡ 1
one_test count x y z e = ap (λ n. length (few_of n x y z).tests) e

pub only_set : (conj : List Pred) (told : Told) (t : Few) (count : Count) (a : ℕ) (s : Slot) (y z : Lane) (pred : Pred) (ps : List Pred) (ends : ℤ × ℤ) (o : Option (Slot × Slot)) → few_of count (a, s) y z ≡ t → count ≡ One → told ≡ AsFew → ps ≡ conj
    → 1 ≤ length ps → length ps < 2 → pred ≡ get_or ps 0 pred → IsSlot s → ends ≡ ends_of s → IfSome o (λ gaps. TellSet pred (a, slot_of ends) (a, gaps.0) (a, gaps.1)) → IfSome o (λ gaps. IsOnlySet conj told t gaps)
only_set conj told t count a s y z pred ps ends None v one few same l h item i e k = tt
only_set conj told t count a s y z pred ps ends (Some gaps) v one few same l h item i e k =
    subst (λ (tests : Few). IsOnlySet conj told tests gaps) v
    (record {
      pred = pred;
      only = sym same ∙ one_pred ps pred l h item;
      few = few;
      one = one_test count (a, s) y z one;
      tells = subst (λ (r : Slot). TellSet pred (a, r) (a, gaps.0) (a, gaps.1)) (ap slot_of e ∙ slot_again s i) k;
    })

met_alone : (e : Assignments) (conj : List Pred) (pred : Pred) → conj ≡ pred ∷ [] → satisfies e conj ≡ true → is_met (values_of e pred.attr) pred.op ≡ true
met_alone e conj pred only h = (and_parts (is_met (values_of e pred.attr) pred.op) true (sym (ap (satisfies e) only) ∙ h)).0

alone_met : (e : Assignments) (conj : List Pred) (pred : Pred) → conj ≡ pred ∷ [] → is_met (values_of e pred.attr) pred.op ≡ true → satisfies e conj ≡ true
alone_met e conj pred only h = ap (satisfies e) only ∙ both (is_met (values_of e pred.attr) pred.op) true h refl

-- the lanes of a small set and of its gaps hold
pub gaps_held : (conj : List Pred) (told : Told) (t : Few) (gaps : Slot × Slot) → IsOnlySet conj told t gaps → (tests : List Test) → HoldLanes conj IsSet (record { tests = tests; first = t.first; second = (t.first.0, gaps.0); third = (t.first.0, gaps.1) })
gaps_held conj told t gaps g tests = record { lost = λ e s h. g.tells.kept e s (met_alone e conj g.pred g.only h); sure = λ w e s h. alone_met e conj g.pred g.only (g.tells.said e s h) }
