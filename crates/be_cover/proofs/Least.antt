-- Least values: of ranges, of ranges without others, and by a walk through a domain.
use Rattle.std.proofs.Common.{◌≡◌, ℕ, zero, suc, ◌+◌, ◌<◌, ◌≤◌, length, get_or, drop, ℤ, pos, negsuc, ◌+ℤ◌, ◌-ℤ◌, ◌≤ℤ◌, ◌<ℤ◌, Bool, true, false, not, cond, ◌&&◌, ◌||◌, List, [], ◌∷◌, find, is_some, Option, Some, None, refl, sym, ap, subst, ◌∙◌, arith}
use Rattle.std.specs.Prelude.{if◌then◌else◌, MatchOption}
use Rattle.std.specs.Int.Signed.{le_z, lt_z}
use Rattle.std.specs.Int.RustNames.{unsigned_abs}
use Rattle.std.specs.List.{list_all}
use Rattle.std.specs.Option.{option_or}
use Rattle.std.proofs.lemmas.Int.{ints}
use Rattle.std.proofs.lemmas.List.{at_drop_more}
use Rattle.std.proofs.lemmas.Bool.{and_parts, or_left, or_from, false_from_ne_true}
use Rattle.be_model.specs.Domains.{Range, is_within, width}
use Rattle.be_model.proofs.Lists.{is_some-find}
use Rattle.be_cover.specs.Ranges.{is_in, is_beyond, rise_apart, IsLeast, first_passing, least_in, least_behind, least_outside, least_beyond}

-- there is one least value
pub one_least : (p : ℤ → Bool) (a b : Option ℤ) → IsLeast p a → IsLeast p b → a ≡ b
one_least p None None h k = refl
one_least p None (Some w) h k = let f = h w in let t = k.0 in absurd (cc)
one_least p (Some v) None h k = let f = k v in let t = h.0 in absurd (cc)
one_least p (Some v) (Some w) h k = ap (λ x. Some x) (same (lt_z v w) (lt_z w v) refl refl)
  where
    same : (c d : Bool) → lt_z v w ≡ c → lt_z w v ≡ d → v ≡ w
    same true d e f = let g = k.1 v (omega (arith, ints)) in let t = h.0 in absurd (cc)
    same false true e f = let g = h.1 w (omega (arith, ints)) in let t = k.0 in absurd (cc)
    same false false e f = omega (arith, ints)

-- tests that pass the same values have the same least one
pub least_of_same : (p q : ℤ → Bool) (o : Option ℤ) → ((v : ℤ) → p v ≡ q v) → IsLeast q o → IsLeast p o
least_of_same p q None e h = λ v. e v ∙ h v
least_of_same p q (Some v) e h = (e v ∙ h.0, λ w l. e w ∙ h.1 w l)

outside_beyond : (r x : Range) (w : ℤ) → is_beyond r x ≡ true → w ≤ℤ (r.1 +ℤ pos 1) → is_within x w ≡ false
outside_beyond r x w h k = grind (arith, ints)

-- ranges beyond another one hold nothing up to its end, nor the value right behind that
none_up_to : (r : Range) (ranges : List Range) (w : ℤ) → list_all (is_beyond r) ranges ≡ true → w ≤ℤ (r.1 +ℤ pos 1) → is_in ranges w ≡ false
none_up_to r [] w h k = refl
none_up_to r (x ∷ xs) w h k =
    let parts = and_parts (is_beyond r x) (list_all (is_beyond r) xs) h in
    or_from (is_within x w) (is_in xs w) (outside_beyond r x w parts.0 k) (none_up_to r xs w parts.1 k)

holds_first : (r : Range) → le_z r.0 r.1 ≡ true → is_within r r.0 ≡ true
holds_first r h = grind (arith, ints)

none_before : (r : Range) (w : ℤ) → w <ℤ r.0 → is_within r w ≡ false
none_before r w h = grind (arith, ints)

-- the first value of the first range is the least
pub least_first : (r : Range) (more : List Range) → rise_apart (r ∷ more) ≡ true → IsLeast (is_in (r ∷ more)) (Some r.0)
least_first r more up =
    let u = and_parts (le_z r.0 r.1) (list_all (is_beyond r) more && rise_apart more) up in
    let v = and_parts (list_all (is_beyond r) more) (rise_apart more) u.1 in
    let full = u.0 in (
      or_left (is_within r r.0) (is_in more r.0) (holds_first r full),
      λ w below. or_from (is_within r w) (is_in more w) (none_before r w below) (none_up_to r more w v.0 (omega (arith, ints))),
    )

pub least_at_first : (ranges : List Range) (d : Range) → 1 ≤ length ranges → rise_apart ranges ≡ true → IsLeast (is_in ranges) (Some (get_or ranges 0 d).0)
least_at_first [] d h up = absurd (omega arith)
least_at_first (r ∷ more) d h up = least_first r more up

-- what is found among ranges that rise and don't touch: it holds the value, and the value right behind it is in none
record IsHolding (others : List Range) (v : ℤ) (x : Range) : Type 0 where
  pub holds : is_within x v ≡ true
  pub behind : is_in others (x.1 +ℤ pos 1) ≡ false
  pub inside : (w : ℤ) → is_within x w ≡ true → is_in others w ≡ true

past_end : (x : Range) → is_within x (x.1 +ℤ pos 1) ≡ false
past_end x = grind (arith, ints)

past_beyond : (x y : Range) (v : ℤ) → is_beyond x y ≡ true → is_within y v ≡ true → is_within x (y.1 +ℤ pos 1) ≡ false
past_beyond x y v h k = grind (arith, ints)

beyond_found : (x y : Range) (v : ℤ) (xs : List Range) → list_all (is_beyond x) xs ≡ true → find (λ z. is_within z v) xs ≡ Some y → is_beyond x y ≡ true
beyond_found x y v [] h k = absurd (cc)
beyond_found x y v (z ∷ zs) h k =
    let parts = and_parts (is_beyond x z) (list_all (is_beyond x) zs) h in
    by_test (is_within z v) parts.0 k (λ l. beyond_found x y v zs parts.1 l)
  where
    by_test : (b : Bool) → is_beyond x z ≡ true → cond b (Some z) (find (λ u. is_within u v) zs) ≡ Some y → (find (λ u. is_within u v) zs ≡ Some y → is_beyond x y ≡ true) → is_beyond x y ≡ true
    by_test true g l later = let same : z ≡ y = cc in subst (λ u. is_beyond x u ≡ true) same g
    by_test false g l later = later l

found_holds : (others : List Range) (v : ℤ) (x : Range) → rise_apart others ≡ true → find (λ z. is_within z v) others ≡ Some x → IsHolding others v x
found_holds [] v x up h = absurd (cc)
found_holds (y ∷ ys) v x up h =
    let u = and_parts (le_z y.0 y.1) (list_all (is_beyond y) ys && rise_apart ys) up in
    let parts = and_parts (list_all (is_beyond y) ys) (rise_apart ys) u.1 in
    by_test (is_within y v) refl parts.0 h (λ l. found_holds ys v x parts.1 l)
  where
    or_later : (b c : Bool) → c ≡ true → (b || c) ≡ true
    or_later true c h = refl
    or_later false c h = h

    by_test : (b : Bool) → is_within y v ≡ b → list_all (is_beyond y) ys ≡ true → cond b (Some y) (find (λ u. is_within u v) ys) ≡ Some x → (find (λ u. is_within u v) ys ≡ Some x → IsHolding ys v x) → IsHolding (y ∷ ys) v x
    by_test true e far l later =
        let same : y ≡ x = cc in
        subst (IsHolding (y ∷ ys) v) same (record {
          holds = e;
          behind = or_from (is_within y (y.1 +ℤ pos 1)) (is_in ys (y.1 +ℤ pos 1)) (past_end y) (none_up_to y ys (y.1 +ℤ pos 1) far (omega (arith, ints)));
          inside = λ w k. or_left (is_within y w) (is_in ys w) k;
        })
    by_test false e far l later =
        let k = later l in
        record {
          holds = k.holds;
          behind = or_from (is_within y (x.1 +ℤ pos 1)) (is_in ys (x.1 +ℤ pos 1)) (past_beyond y x v (beyond_found y x v ys far l) k.holds) k.behind;
          inside = λ w m. or_later (is_within y w) (is_in ys w) (k.inside w m);
        }

-- what a walk finds of one range: its least value that isn't in the others
abbrev IsOutside : List Range → Range → Option ℤ → Type 0
IsOutside others r o =
    MatchOption o ((w : ℤ) → is_within r w ≡ true → is_in others w ≡ true)
    (λ v. (is_within r v ≡ true) × (is_in others v ≡ false) × ((w : ℤ) → is_within r w ≡ true → w <ℤ v → is_in others w ≡ true))

within_found : (r x : Range) (w : ℤ) → is_within x r.0 ≡ true → is_within r w ≡ true → w <ℤ (x.1 +ℤ pos 1) → is_within x w ≡ true
within_found r x w h k l = grind (arith, ints)

within_whole : (r x : Range) (w : ℤ) → is_within x r.0 ≡ true → lt_z x.1 r.1 ≡ false → is_within r w ≡ true → is_within x w ≡ true
within_whole r x w h k l = grind (arith, ints)

right_behind : (r x : Range) → is_within x r.0 ≡ true → lt_z x.1 r.1 ≡ true → is_within r (x.1 +ℤ pos 1) ≡ true
right_behind r x h k = grind (arith, ints)

not_below_first : (r : Range) (w : ℤ) → is_within r w ≡ true → w <ℤ r.0 → ⊥
not_below_first r w h k = grind (arith, ints)

is_outside : (others : List Range) (r : Range) → rise_apart others ≡ true → le_z r.0 r.1 ≡ true → IsOutside others r (least_outside others r)
is_outside others r up full = by_found (find (λ x. is_within x r.0) others) refl
  where
    by_end : (x : Range) (b : Bool) → lt_z x.1 r.1 ≡ b → IsHolding others r.0 x → IsOutside others r (if b then Some (x.1 +ℤ pos 1) else None)
    by_end x true e k =
        (right_behind r x k.holds e, k.behind, λ w m l. k.inside w (within_found r x w k.holds m l))
    by_end x false e k = λ w m. k.inside w (within_whole r x w k.holds e m)

    by_found : (o : Option Range) → find (λ x. is_within x r.0) others ≡ o → IsOutside others r (least_behind r o)
    by_found None e =
        (holds_first r full, sym (is_some-find (λ x. is_within x r.0) others) ∙ ap is_some e, λ w m l. absurd (not_below_first r w m l))
    by_found (Some x) e = by_end x (lt_z x.1 r.1) refl (found_holds others r.0 x up e)

-- passes: in the ranges and not in the others
abbrev passes : List Range → List Range → ℤ → Bool
passes others ranges v = is_in ranges v && not (is_in others v)

hidden : (w i o : Bool) → (w ≡ true → o ≡ true) → ((w || i) && not o) ≡ (i && not o)
hidden true true true h = refl
hidden true false true h = refl
hidden true i false h = let k = h refl in absurd (cc)
hidden false i o h = refl

shown : (w i o : Bool) → w ≡ true → o ≡ false → ((w || i) && not o) ≡ true
shown true i false h k = refl
shown true i true h k = absurd (cc)
shown false i o h k = absurd (cc)

missed : (w i o : Bool) → (w ≡ true → o ≡ true) → i ≡ false → ((w || i) && not o) ≡ false
missed true i true h k = by_bool i
  where
    by_bool : (i : Bool) → ((true || i) && not true) ≡ false
    by_bool i = refl
missed true i false h k = let l = h refl in absurd (cc)
missed false true o h k = absurd (cc)
missed false false o h k = refl

up_to_end : (r : Range) (v w : ℤ) → is_within r v ≡ true → w <ℤ v → w ≤ℤ (r.1 +ℤ pos 1)
up_to_end r v w h k = grind (arith, ints)

-- the least value of ranges that isn't in the others
pub least_beyond_is : (others ranges : List Range) → rise_apart others ≡ true → rise_apart ranges ≡ true → IsLeast (λ v. is_in ranges v && not (is_in others v)) (least_beyond others ranges)
least_beyond_is others [] h up = λ v. refl
least_beyond_is others (r ∷ more) h up =
    let u = and_parts (le_z r.0 r.1) (list_all (is_beyond r) more && rise_apart more) up in
    let v = and_parts (list_all (is_beyond r) more) (rise_apart more) u.1 in
    by_first (least_outside others r) (is_outside others r h u.0) v.0 (least_beyond_is others more h v.1)
  where
    by_first : (o : Option ℤ) → IsOutside others r o → list_all (is_beyond r) more ≡ true → IsLeast (passes others more) (least_beyond others more) → IsLeast (passes others (r ∷ more)) (option_or o (least_beyond others more))
    by_first None k far later =
        least_of_same (passes others (r ∷ more)) (passes others more) (least_beyond others more) (λ v. hidden (is_within r v) (is_in more v) (is_in others v) (k v)) later
    by_first (Some v) k far later = (
      shown (is_within r v) (is_in more v) (is_in others v) k.0 k.1,
      λ w below. missed (is_within r w) (is_in more w) (is_in others w) (λ m. k.2 w m below) (none_up_to r more w far (up_to_end r v w k.0 below)),
    )

-- the first value from v on that passes, among n
abbrev IsFirst : (ℤ → Bool) → ℕ → ℤ → Option ℤ → Type 0
IsFirst p n v o =
    MatchOption o ((w : ℤ) → v ≤ℤ w → w <ℤ (v +ℤ pos n) → p w ≡ false) (λ x. (v ≤ℤ x) × (p x ≡ true) × ((w : ℤ) → v ≤ℤ w → w <ℤ x → p w ≡ false))

first_is : (p : ℤ → Bool) (n : ℕ) (v : ℤ) → IsFirst p n v (first_passing p n v)
first_is p zero v = λ w low high. absurd (omega (arith, ints))
first_is p (suc n) v = by_test (p v) refl (first_is p n (v +ℤ pos 1))
  where
    here : (w : ℤ) → p v ≡ false → v ≤ℤ w → ((v +ℤ pos 1) ≤ℤ w → p w ≡ false) → p w ≡ false
    here w e low later = by_order (lt_z v w) refl
      where
        by_order : (b : Bool) → lt_z v w ≡ b → p w ≡ false
        by_order true f = later (omega (arith, ints))
        by_order false f = let same : v ≡ w = omega (arith, ints) in ap p (sym same) ∙ e

    by_rest : (o : Option ℤ) → p v ≡ false → IsFirst p n (v +ℤ pos 1) o → IsFirst p (suc n) v o
    by_rest None e k = λ w low high. here w e low (λ l. k w l (omega (arith, ints)))
    by_rest (Some x) e k =
        let l = k.0 in
        (omega (arith, ints), k.1, λ w low high. here w e low (λ m. k.2 w m high))

    by_test : (b : Bool) → p v ≡ b → IsFirst p n (v +ℤ pos 1) (first_passing p n (v +ℤ pos 1)) → IsFirst p (suc n) v (if b then Some v else first_passing p n (v +ℤ pos 1))
    by_test true e k = (omega (arith, ints), e, λ w low high. absurd (omega (arith, ints)))
    by_test false e k = by_rest (first_passing p n (v +ℤ pos 1)) e k

low_end : (r : Range) (v : ℤ) → is_within r v ≡ true → r.0 ≤ℤ v
low_end r v h = grind (arith, ints)

high_end : (r : Range) (v : ℤ) → is_within r v ≡ true → v ≤ℤ r.1
high_end r v h = grind (arith, ints)

in_width : (r : Range) (v : ℤ) → is_within r v ≡ true → v <ℤ (r.0 +ℤ pos (width r))
in_width r v h = by_count ((r.1 -ℤ r.0) +ℤ pos 1) refl (low_end r v h) (high_end r v h)
  where
    by_count : (z : ℤ) → (r.1 -ℤ r.0) +ℤ pos 1 ≡ z → r.0 ≤ℤ v → v ≤ℤ r.1 → v <ℤ (r.0 +ℤ pos (unsigned_abs z))
    by_count (pos n) e low high = omega (arith, ints)
    by_count (negsuc n) e low high = absurd (omega (arith, ints))

-- the walk through a domain finds the least value, where none outside the domain passes
pub least_in_is : (p : ℤ → Bool) (r : Range) → ((v : ℤ) → p v ≡ true → is_within r v ≡ true) → IsLeast p (least_in p (Some r))
unfolding least_in
least_in_is p r inside = by_first (first_passing p (width r) r.0) (first_is p (width r) r.0)
  where
    by_first : (o : Option ℤ) → IsFirst p (width r) r.0 o → IsLeast p o
    by_first None k =
        λ v. false_from_ne_true (p v) (λ t. let f = k v (low_end r v (inside v t)) (in_width r v (inside v t)) in absurd (cc))
    by_first (Some x) k =
        (k.1, λ w below. false_from_ne_true (p w) (λ t. let f = k.2 w (low_end r w (inside w t)) below in absurd (cc)))

-- one turn of the walk over ranges
pub walk_ends : (others ranges : List Range) (i : ℕ) (d : Range) → i < length ranges → is_some (least_outside others (get_or ranges i d)) ≡ true → least_beyond others (drop i ranges) ≡ least_outside others (get_or ranges i d)
walk_ends others ranges i d h k =
    at_drop_more (least_beyond others) ranges i d h ∙ by_first (least_outside others (get_or ranges i d)) k
  where
    by_first : (o : Option ℤ) → is_some o ≡ true → option_or o (least_beyond others (drop (i + 1) ranges)) ≡ o
    by_first None e = absurd (cc)
    by_first (Some v) e = refl

pub walk_goes_on : (others ranges : List Range) (i : ℕ) (d : Range) → i < length ranges → is_some (least_outside others (get_or ranges i d)) ≡ false → least_beyond others (drop i ranges) ≡ least_beyond others (drop (i + 1) ranges)
walk_goes_on others ranges i d h k =
    at_drop_more (least_beyond others) ranges i d h ∙ by_first (least_outside others (get_or ranges i d)) k
  where
    by_first : (o : Option ℤ) → is_some o ≡ false → option_or o (least_beyond others (drop (i + 1) ranges)) ≡ least_beyond others (drop (i + 1) ranges)
    by_first None e = refl
    by_first (Some v) e = absurd (cc)
