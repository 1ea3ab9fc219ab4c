-- The laws of hulls and halves.
use Rattle.std.proofs.Common.{◌≡◌, ⊎_elim, ℕ, ℤ, pos, negsuc, ◌+ℤ◌, ◌-ℤ◌, ◌≤ℤ◌, ◌<ℤ◌, ◌+◌, ◌-◌, ◌/◌, ◌<◌, ◌≤◌, Bool, true, false, not, ◌&&◌, ◌||◌, List, [], ◌∷◌, length, get_or, refl, sym, ap, subst, ◌∙◌, arith}
use Rattle.std.specs.Int.Signed.{le_z, lt_z}
use Rattle.std.specs.Ordering.{int_eq}
use Rattle.std.specs.Int.{int_max, int_min}
use Rattle.std.specs.Int.RustNames.{int_div, unsigned_abs}
use Rattle.std.specs.List.{list_all}
use Rattle.std.proofs.lemmas.Int.{ints, clamps}
use Rattle.std.proofs.lemmas.Bool.{and_parts, or_cases, or_left, or_right}
use Rattle.std.proofs.lemmas.Bool.Decides.{Decides-int_eq}
use Rattle.be_model.specs.declared.ops.Op.{Op}
use Rattle.be_model.specs.declared.ops.Op.TheVariants.{Lt, Le, Eq, Ne, Ge, Gt, Between, OneOf, NoneOf}
use Rattle.be_model.specs.Domains.{Range, is_within, is_some_within, middle}
use Rattle.be_model.specs.Forms.{OpForm, rises}
use Rattle.be_model.specs.Matching.{is_among}
use Rattle.be_model.specs.Hulls.{hull, first_of_values, last_of_values}
use Rattle.be_model.specs.Lies.{values_in, lies_within}
use Rattle.be_model.specs.Laws.{HullsHold, IsPart, HalvesSplit, AreHalves}

-- a value within a range, as two orders
pub within_parts : (r : Range) (v : ℤ) → is_within r v ≡ true → (r.0 ≤ℤ v) × (v ≤ℤ r.1)
within_parts r v h = parts (le_z r.0 v) (le_z v r.1) r.0 v r.1 refl refl h
  where
    parts : (a b : Bool) (x y z : ℤ) → le_z x y ≡ a → le_z y z ≡ b → (a && b) ≡ true → (x ≤ℤ y) × (y ≤ℤ z)
    parts true true x y z e f g = (omega (arith, ints), omega (arith, ints))
    parts true false x y z e f g = absurd (cc)
    parts false b x y z e f g = absurd (cc)

le_test : (x y : ℤ) → x ≤ℤ y → le_z x y ≡ true
le_test x y h = by_test (le_z x y) refl
  where
    by_test : (b : Bool) → le_z x y ≡ b → b ≡ true
    by_test true e = refl
    by_test false e = absurd (omega (arith, ints))

pub within_from : (r : Range) (v : ℤ) → r.0 ≤ℤ v → v ≤ℤ r.1 → is_within r v ≡ true
within_from r v h k = ap (λ b. b && le_z v r.1) (le_test r.0 v h) ∙ le_test v r.1 k

-- what a range holds, a wider one does
pub is_within-wider : (whole part : Range) (v : ℤ) → whole.0 ≤ℤ part.0 → part.1 ≤ℤ whole.1 → is_within part v ≡ true → is_within whole v ≡ true
is_within-wider w p v low high h =
    let k = within_parts p v h in within_from w v (omega (arith, ints)) (omega (arith, ints))

pub is_some_within-wider : (whole part : Range) (vs : List ℤ) → whole.0 ≤ℤ part.0 → part.1 ≤ℤ whole.1 → is_some_within part vs ≡ true → is_some_within whole vs ≡ true
is_some_within-wider w p [] low high h = h
is_some_within-wider w p (v ∷ vs) low high h =
    ⊎_elim (λ e. or_left (is_within w v) (is_some_within w vs) (is_within-wider w p v low high e)) (λ e. or_right (is_within w v) (is_some_within w vs) (is_some_within-wider w p vs low high e))
    (or_cases (is_within p v) (is_some_within p vs) h)

lt_from : (x y : ℤ) → lt_z x y ≡ true → x <ℤ y
lt_from x y h = omega (arith, ints)

le_from : (x y : ℤ) → le_z x y ≡ true → x ≤ℤ y
le_from x y h = omega (arith, ints)

-- the lesser and the greater of two values
pub max_bounds : (x y : ℤ) → (x ≤ℤ int_max x y) × (y ≤ℤ int_max x y)
max_bounds x y = (omega (arith, ints, clamps), omega (arith, ints, clamps))

min_bounds : (x y : ℤ) → (int_min x y ≤ℤ x) × (int_min x y ≤ℤ y)
min_bounds x y = (omega (arith, ints, clamps), omega (arith, ints, clamps))

max_above : (x y v : ℤ) → x ≤ℤ v → y ≤ℤ v → int_max x y ≤ℤ v
max_above x y v h k = omega (arith, ints, clamps)

min_below : (x y v : ℤ) → v ≤ℤ x → v ≤ℤ y → v ≤ℤ int_min x y
min_below x y v h k = omega (arith, ints, clamps)

equal_from : (x y : ℤ) → int_eq x y ≡ true → x ≡ y
equal_from x y h = (Decides-int_eq x y).0 h

le_of_equal : (x v : ℤ) → x ≡ v → x ≤ℤ v
le_of_equal x v h = omega (arith, ints)

step_below : (x y v : ℤ) → lt_z x y ≡ true → y ≤ℤ v → x ≤ℤ v
step_below x y v h k = omega (arith, ints)

-- the first value of a set is the least
first_least : (x : ℤ) (xs : List ℤ) (v : ℤ) → rises (x ∷ xs) ≡ true → is_among (x ∷ xs) v ≡ true → x ≤ℤ v
first_least x [] v r h =
    ⊎_elim (λ e. le_of_equal x v (equal_from x v e)) (λ e. absurd (cc)) (or_cases (int_eq x v) false h)
first_least x (y ∷ ys) v r h =
    let k = and_parts (lt_z x y) (rises (y ∷ ys)) r in
    ⊎_elim (λ e. le_of_equal x v (equal_from x v e)) (λ e. step_below x y v k.0 (first_least y ys v k.1 e)) (or_cases (int_eq x v) (is_among (y ∷ ys) v) h)

first_below_last : (x : ℤ) (xs : List ℤ) → rises (x ∷ xs) ≡ true → x ≤ℤ get_or (x ∷ xs) (length xs) (pos 0)
first_below_last x [] r = le_of_equal x x refl
first_below_last x (y ∷ ys) r =
    let k = and_parts (lt_z x y) (rises (y ∷ ys)) r in
    step_below x y (get_or (y ∷ ys) (length ys) (pos 0)) k.0 (first_below_last y ys k.1)

moved_le : (x v l : ℤ) → x ≡ v → x ≤ℤ l → v ≤ℤ l
moved_le x v l e h = omega (arith, ints)

-- the last value of a set is the greatest
last_greatest : (x : ℤ) (xs : List ℤ) (v : ℤ) → rises (x ∷ xs) ≡ true → is_among (x ∷ xs) v ≡ true → v ≤ℤ get_or (x ∷ xs) (length xs) (pos 0)
last_greatest x [] v r h =
    ⊎_elim (λ e. moved_le x v x (equal_from x v e) (le_of_equal x x refl)) (λ e. absurd (cc)) (or_cases (int_eq x v) false h)
last_greatest x (y ∷ ys) v r h =
    let k = and_parts (lt_z x y) (rises (y ∷ ys)) r in
    ⊎_elim (λ e. moved_le x v (get_or (y ∷ ys) (length ys) (pos 0)) (equal_from x v e) (first_below_last x (y ∷ ys) r)) (λ e. last_greatest y ys v k.1 e) (or_cases (int_eq x v) (is_among (y ∷ ys) v) h)

set_within : (xs : List ℤ) (v : ℤ) → rises xs ≡ true → is_among xs v ≡ true → is_within (first_of_values xs, last_of_values xs) v ≡ true
set_within [] v r h = absurd (cc)
set_within (x ∷ xs) v r h =
    let e : length xs ≡ length (x ∷ xs) - 1 = omega arith in
    within_from (x, last_of_values (x ∷ xs)) v (first_least x xs v r h)
    (subst (λ n. v ≤ℤ get_or (x ∷ xs) n (pos 0)) e (last_greatest x xs v r h))

-- the hull of a comparison holds every value of the range of which it holds
pub hulls_hold : HullsHold
hulls_hold d (Lt x) v f w h =
    let k = within_parts d v w in
    let l = lt_from v x h in
    within_from (d.0, int_max d.0 (x -ℤ pos 1)) v k.0 (let m = max_bounds d.0 (x -ℤ pos 1) in omega (arith, ints))
hulls_hold d (Le x) v f w h =
    let k = within_parts d v w in within_from (d.0, x) v k.0 (le_from v x h)
hulls_hold d (Eq x) v f w h =
    let e = equal_from v x h in within_from (x, x) v (le_of_equal x v (sym e)) (le_of_equal v x e)
hulls_hold d (Ne x) v f w h = w
hulls_hold d (Ge x) v f w h =
    let k = within_parts d v w in within_from (x, d.1) v (le_from x v h) k.1
hulls_hold d (Gt x) v f w h =
    let k = within_parts d v w in
    let l = lt_from x v h in
    within_from (int_min d.1 (x +ℤ pos 1), d.1) v (omega (arith, ints, clamps)) k.1
hulls_hold d (Between x y) v f w h =
    let k = within_parts (x, y) v h in
    within_from (x, int_max x y) v k.0 (let m = max_bounds x y in omega (arith, ints))
hulls_hold d (OneOf xs) v f w h = set_within xs v f.rising h
hulls_hold d (NoneOf xs) v f w h = w

-- a value of a list lies within a range that holds all of them
in_all : (d : Range) (x : ℤ) (xs : List ℤ) → list_all (is_within d) (x ∷ xs) ≡ true → (is_within d x ≡ true) × (list_all (is_within d) xs ≡ true)
in_all d x xs h = and_parts (is_within d x) (list_all (is_within d) xs) h

last_within : (d : Range) (x : ℤ) (xs : List ℤ) → list_all (is_within d) (x ∷ xs) ≡ true → is_within d (get_or (x ∷ xs) (length xs) (pos 0)) ≡ true
last_within d x [] h = (in_all d x [] h).0
last_within d x (y ∷ ys) h = last_within d y ys (in_all d x (y ∷ ys) h).1

part_from : (d r : Range) → d.0 ≤ℤ r.0 → r.0 ≤ℤ r.1 → r.1 ≤ℤ d.1 → IsPart d r
part_from d r h k l = record { low = h; rising = k; high = l }

-- the hull of a comparison that lies in a range is a part of the range
pub hulls_lie : (d : Range) (op : Op) → OpForm op → d.0 ≤ℤ d.1 → lies_within d (values_in op) ≡ true → IsPart d (hull d op)
hulls_lie d (Lt x) f s h =
    let k = within_parts d x (in_all d x [] h).0 in
    let m = max_bounds d.0 (x -ℤ pos 1) in
    part_from d (d.0, int_max d.0 (x -ℤ pos 1)) (le_of_equal d.0 d.0 refl) m.0 (max_above d.0 (x -ℤ pos 1) d.1 s (omega (arith, ints)))
hulls_lie d (Le x) f s h =
    let k = within_parts d x (in_all d x [] h).0 in part_from d (d.0, x) (le_of_equal d.0 d.0 refl) k.0 k.1
hulls_lie d (Eq x) f s h =
    let k = within_parts d x (in_all d x [] h).0 in part_from d (x, x) k.0 (le_of_equal x x refl) k.1
hulls_lie d (Ne x) f s h = part_from d d (le_of_equal d.0 d.0 refl) s (le_of_equal d.1 d.1 refl)
hulls_lie d (Ge x) f s h =
    let k = within_parts d x (in_all d x [] h).0 in part_from d (x, d.1) k.0 k.1 (le_of_equal d.1 d.1 refl)
hulls_lie d (Gt x) f s h =
    let k = within_parts d x (in_all d x [] h).0 in
    let m = min_bounds d.1 (x +ℤ pos 1) in
    part_from d (int_min d.1 (x +ℤ pos 1), d.1) (min_below d.1 (x +ℤ pos 1) d.0 s (omega (arith, ints))) m.0 (le_of_equal d.1 d.1 refl)
hulls_lie d (Between x y) f s h =
    let p = in_all d x (y ∷ []) h in
    let k = within_parts d x p.0 in
    let l = within_parts d y (in_all d y [] p.1).0 in
    let m = max_bounds x y in
    part_from d (x, int_max x y) k.0 m.0 (max_above x y d.1 k.1 l.1)
hulls_lie d (OneOf []) f s h = absurd (let k : 0 < 0 = f.some in omega arith)
hulls_lie d (OneOf (x ∷ xs)) f s h =
    let e : length xs ≡ length (x ∷ xs) - 1 = omega arith in
    let k = within_parts d x (in_all d x xs h).0 in
    let l = within_parts d (get_or (x ∷ xs) (length xs) (pos 0)) (last_within d x xs h) in
    subst (λ n. IsPart d (x, get_or (x ∷ xs) n (pos 0))) e
    (part_from d (x, get_or (x ∷ xs) (length xs) (pos 0)) k.0 (first_below_last x xs f.rising) l.1)
hulls_lie d (NoneOf xs) f s h = part_from d d (le_of_equal d.0 d.0 refl) s (le_of_equal d.1 d.1 refl)

as_count : (z : ℤ) → pos 0 <ℤ z → (n : ℕ) × (z ≡ pos n) × (1 ≤ n)
as_count (pos n) h = (n, refl, omega (arith, ints))
as_count (negsuc n) h = absurd (omega (arith, ints))

next_test : (m v : ℤ) → le_z (m +ℤ pos 1) v ≡ not (le_z v m)
next_test m v = by_test (le_z v m) (le_z (m +ℤ pos 1) v) refl refl
  where
    by_test : (b c : Bool) → le_z v m ≡ b → le_z (m +ℤ pos 1) v ≡ c → c ≡ not b
    by_test true true e f = absurd (omega (arith, ints))
    by_test true false e f = refl
    by_test false true e f = refl
    by_test false false e f = absurd (omega (arith, ints))

covered : (a m b v : ℤ) → a ≤ℤ m → m <ℤ b → (le_z a v && le_z v b) ≡ ((le_z a v && le_z v m) || (not (le_z v m) && le_z v b))
covered a m b v h k = by_test (le_z a v) (le_z v m) (le_z v b) refl refl refl
  where
    by_test : (p q r : Bool) → le_z a v ≡ p → le_z v m ≡ q → le_z v b ≡ r → (p && r) ≡ ((p && q) || (not q && r))
    by_test true true true e f g = refl
    by_test true true false e f g = absurd (omega (arith, ints))
    by_test true false r e f g = refl
    by_test false true r e f g = refl
    by_test false false r e f g = absurd (omega (arith, ints))

not_both : (p q r : Bool) → ((p && q) && (not q && r)) ≡ false
not_both true true r = refl
not_both true false r = refl
not_both false q r = refl

-- the halves about a middle
halves_at : (a b : ℤ) (n : ℕ) (m : ℤ) → b -ℤ a ≡ pos n → 1 ≤ n → m ≡ a +ℤ pos (n / 2) → AreHalves (a, b) (a, m) (m +ℤ pos 1, b)
halves_at a b n m e s is =
    let low : a ≤ℤ m = omega (arith, ints) in
    let high : m <ℤ b = omega (arith, ints) in
    let l : (m -ℤ a) +ℤ pos 1 ≡ pos (n / 2 + 1) = omega (arith, ints) in
    let g : (b -ℤ (m +ℤ pos 1)) +ℤ pos 1 ≡ pos (n - n / 2) = omega (arith, ints) in
    let w : (b -ℤ a) +ℤ pos 1 ≡ pos (n + 1) = omega (arith, ints) in
    record {
      low_some = low;
      high_some = omega (arith, ints);
      cover = λ v. covered a m b v low high ∙ ap (λ t. (le_z a v && le_z v m) || (t && le_z v b)) (sym (next_test m v));
      apart = λ v. ap (λ t. (le_z a v && le_z v m) && (t && le_z v b)) (next_test m v) ∙ not_both (le_z a v) (le_z v m) (le_z v b);
      low_width = ap unsigned_abs l ∙ (let k : n / 2 + 1 ≡ (n + 1 + 1) / 2 = omega arith in k) ∙ ap (λ z. (unsigned_abs z + 1) / 2) (sym w);
      high_width = ap unsigned_abs g ∙ (let k : n - n / 2 ≡ (n + 1) / 2 = omega arith in k) ∙ ap (λ z. unsigned_abs z / 2) (sym w);
    }

-- the halves of a range of more than one value
pub halves_split : HalvesSplit
halves_split r h =
    let n = as_count (r.1 -ℤ r.0) (omega (arith, ints)) in
    halves_at r.0 r.1 n.0 (middle r) n.1 n.2 (ap (λ z. r.0 +ℤ int_div z (pos 2)) n.1)
