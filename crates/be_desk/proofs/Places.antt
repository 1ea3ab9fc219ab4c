-- Places in records: the next one, and the first of several records.
use Rattle.std.proofs.Common.{◌≡◌, ℕ, zero, suc, ◌+◌, ◌<◌, ◌≤◌, ◌⊎◌, List, [], ◌∷◌, length, Option, Some, None, slice_get, get_or, inl, inr, refl, sym, ap, ◌∙◌, subst, arith}
use Rattle.std.specs.Prelude.{min, Ok, Err}
use Rattle.std.specs.List.{All, AllWithin, AllPairs, Any}
use Rattle.std.specs.Ordering.{nat_cmp}
use Rattle.std.specs.List.Sorted.{IsBinarySearchResult}
use Rattle.std.proofs.lemmas.Bool.{cases_order}
use Rattle.std.proofs.lemmas.List.{get_or_default}
use Rattle.std.proofs.lemmas.List.Elements.{All-cons, All-head, All-nil, All-tail, All-weaker, AllWithin-more}
use Rattle.std.proofs.lemmas.List.Sorted.{searched}
use Rattle.std.proofs.lemmas.Option.{slice_get-get_or}
use Rattle.be_change.specs.History.{Entry}
use Rattle.be_desk.specs.Seats.{SeatState, put_placed, placed_at, IsRecord}
use Rattle.be_desk.specs.Closing.{HasPlace, IsNextPlace, least_of}

abbrev pub In : ℕ → List (ℕ × Entry) → Type 0
In p [] = ⊥
In p (q ∷ qs) = (q.0 ≡ p) ⊎ In p qs

pub in_any : (p : ℕ) (own : List (ℕ × Entry)) → HasPlace p own → In p own
in_any p own found = in_at p own found.0 found.1 found.2 found.3 found.4
  where
    in_at : (p : ℕ) (own : List (ℕ × Entry)) (k : ℕ) (x : ℕ × Entry) → k < length own → get_or own k x ≡ x → x.0 ≡ p → In p own
    in_at p [] k x lt at is = absurd (omega (arith, lt))
    in_at p (q ∷ qs) zero x lt at is = inl (ap (λ (z : ℕ × Entry). z.0) at ∙ is)
    in_at p (q ∷ qs) (suc k) x lt at is = inr (in_at p qs k x (omega (arith, lt)) at is)

pub any_in : (p : ℕ) (own : List (ℕ × Entry)) → In p own → HasPlace p own
any_in p [] i = absurd i
any_in p (q ∷ qs) (inl is) = (0, q, omega arith, refl, is)
any_in p (q ∷ qs) (inr i) = more (any_in p qs i)
  where
    more : HasPlace p qs → HasPlace p (q ∷ qs)
    more found = (suc found.0, found.1, omega (arith, found.2), found.3, found.4)

-- each place of a record is there, and each is one of these

in_put : (x p : ℕ) (o : Option Entry) (rest : List (ℕ × Entry)) → In x rest → In x (put_placed p o rest)
in_put x p None rest i = i
in_put x p (Some e) rest i = inr i

in_placed : (h : List Entry) (ps : List ℕ) (i : ℕ) → All (λ (p : ℕ). p < length h) ps → i < length ps → In (get_or ps i 0) (placed_at h ps)
in_placed h [] i low lt = absurd (omega (arith, lt))
in_placed h (p ∷ ps) (suc i) low lt = in_put (get_or ps i 0) p (slice_get h p) (placed_at h ps) (in_placed h ps i (All-tail (λ (q : ℕ). q < length h) p ps low) (omega (arith, lt)))
in_placed h (p ∷ ps) zero low lt = here h p (placed_at h ps) (All-head (λ (q : ℕ). q < length h) p ps low)
  where
    here : (h : List Entry) (p : ℕ) (rest : List (ℕ × Entry)) → p < length h → In p (put_placed p (slice_get h p) rest)
    here [] p rest lt = absurd (omega (arith, lt))
    here (e ∷ es) p rest lt = subst (λ (o : Option Entry). In p (put_placed p o rest)) (sym (slice_get-get_or (e ∷ es) p e lt)) (inl refl)

all_put : (P : ℕ → Type 0) (p : ℕ) (o : Option Entry) (rest : List (ℕ × Entry)) → P p → All (λ (q : ℕ × Entry). P q.0) rest → All (λ (q : ℕ × Entry). P q.0) (put_placed p o rest)
all_put P p None rest one all = all
all_put P p (Some e) rest one all = All-cons (λ (q : ℕ × Entry). P q.0) (p, e) rest one all

all_placed : (P : ℕ → Type 0) (h : List Entry) (ps : List ℕ) → All P ps → All (λ (q : ℕ × Entry). P q.0) (placed_at h ps)
all_placed P h [] all = All-nil (λ (q : ℕ × Entry). P q.0)
all_placed P h (p ∷ ps) all = all_put P p (slice_get h p) (placed_at h ps) (All-head P p ps all) (all_placed P h ps (All-tail P p ps all))

-- what a binary search for a place says

rises : (ps : List ℕ) → AllPairs (λ (a b : ℕ). a < b) ps → (a b : ℕ) → a ≤ b → b < length ps → get_or ps a 0 ≤ get_or ps b 0
rises ps up a b le within = step (cases_order a b)
  where
    step : (a ≡ b) ⊎ ((a < b) ⊎ (b < a)) → get_or ps a 0 ≤ get_or ps b 0
    step (inr (inl lt)) = omega (arith, up a b 0 lt within)
    step (inl same) = omega (arith, ap (λ (i : ℕ). get_or ps i 0) same)
    step (inr (inr lt)) = absurd (omega (arith, le, lt))

next_ok : (made : List Entry) (ps : List ℕ) (place i : ℕ) → IsRecord made ps → IsBinarySearchResult (λ (y : ℕ). nat_cmp y place) ps (Ok i) → IsNextPlace place (placed_at made ps) (Some place)
next_ok made ps place i r is =
    let f = searched ps place (Ok i) is (rises ps r.rising) in
    (omega arith, any_in place (placed_at made ps) (subst (λ (p : ℕ). In p (placed_at made ps)) f.1 (in_placed made ps i r.within f.0)), λ k d lt from. from)

next_some : (made : List Entry) (ps : List ℕ) (place i : ℕ) → IsRecord made ps → IsBinarySearchResult (λ (y : ℕ). nat_cmp y place) ps (Err i) → i < length ps → IsNextPlace place (placed_at made ps) (Some (get_or ps i 0))
next_some made ps place i r is within =
    let f = searched ps place (Err i) is (rises ps r.rising) in (
      omega (arith, f.2 i (omega arith) within),
      any_in (get_or ps i 0) (placed_at made ps) (in_placed made ps i r.within within),
      all_placed (λ (p : ℕ). place ≤ p → get_or ps i 0 ≤ p) made ps (λ k d lt from. behind f.1 k d lt from (cases_order i k)),
    )
  where
    behind : ((k : ℕ) → k < i → get_or ps k 0 < place) → (k d : ℕ) → k < length ps → place ≤ get_or ps k d → (i ≡ k) ⊎ ((i < k) ⊎ (k < i)) → get_or ps i 0 ≤ get_or ps k d
    behind below k d lt from (inr (inl after)) = omega (arith, r.rising i k 0 after lt, get_or_default ps k d 0 lt)
    behind below k d lt from (inl same) = omega (arith, ap (λ (j : ℕ). get_or ps j 0) same, get_or_default ps k d 0 lt)
    behind below k d lt from (inr (inr before)) = absurd (omega (arith, below k before, from, get_or_default ps k d 0 lt))

next_none : (made : List Entry) (ps : List ℕ) (place i : ℕ) → IsRecord made ps → IsBinarySearchResult (λ (y : ℕ). nat_cmp y place) ps (Err i) → length ps ≤ i → IsNextPlace place (placed_at made ps) None
next_none made ps place i r is past =
    let f = searched ps place (Err i) is (rises ps r.rising) in
    all_placed (λ (p : ℕ). p < place) made ps (λ k d lt. omega (arith, f.1 k (omega (arith, lt, past)), get_or_default ps k d 0 lt))

-- the same of a seat's record
pub next_in : (made : List Entry) (ps xs : List ℕ) (own : List (ℕ × Entry)) (place i n : ℕ) → IsRecord made ps → xs ≡ ps → placed_at made ps ≡ own
    → (IsBinarySearchResult (λ (y : ℕ). nat_cmp y place) xs (Ok i) → IsNextPlace place own (Some place))
    × (IsBinarySearchResult (λ (y : ℕ). nat_cmp y place) xs (Err i) → i < length ps → n ≡ get_or ps i 0 → IsNextPlace place own (Some n))
    × (IsBinarySearchResult (λ (y : ℕ). nat_cmp y place) xs (Err i) → length ps ≤ i → IsNextPlace place own None)
next_in made ps xs own place i n r same is = (
  λ ok. subst (λ (l : List (ℕ × Entry)). IsNextPlace place l (Some place)) is (next_ok made ps place i r (subst (λ (l : List ℕ). IsBinarySearchResult (λ (y : ℕ). nat_cmp y place) l (Ok i)) same ok)),
  (λ err within at. subst (λ (m : ℕ). IsNextPlace place own (Some m)) (sym at)
      (subst (λ (l : List (ℕ × Entry)). IsNextPlace place l (Some (get_or ps i 0))) is (next_some made ps place i r (subst (λ (l : List ℕ). IsBinarySearchResult (λ (y : ℕ). nat_cmp y place) l (Err i)) same err) within))),
  (λ err past. subst (λ (l : List (ℕ × Entry)). IsNextPlace place l None) is (next_none made ps place i r (subst (λ (l : List ℕ). IsBinarySearchResult (λ (y : ℕ). nat_cmp y place) l (Err i)) same err) past)),
)

-- the first place in the first records of several

abbrev pub EachBelow : ℕ → SeatState → Type 0
EachBelow from s = All (λ (p : ℕ × Entry). p.0 < from) s.own

abbrev pub EachBehind : ℕ → ℕ → SeatState → Type 0
EachBehind from n s = All (λ (p : ℕ × Entry). from ≤ p.0 → n ≤ p.0) s.own

abbrev pub IsFirstSo : ℕ → List SeatState → ℕ → Option ℕ → Type 0
IsFirstSo from seats i None = AllWithin (EachBelow from) seats 0 i
IsFirstSo from seats i (Some n) = (from ≤ n) × Any (λ (s : SeatState). HasPlace n s.own) seats × AllWithin (EachBehind from n) seats 0 i

-- one record more
more_within : (P : SeatState → Type 0) (seats : List SeatState) (i : ℕ) (d : SeatState) → i < length seats → AllWithin P seats 0 i → P (get_or seats i d) → AllWithin P seats 0 (i + 1)
more_within P seats i d lt all one = AllWithin-more P seats 0 i all (λ e. subst P (get_or_default seats i d e lt) one)

none_behind : (from n : ℕ) (s : SeatState) → EachBelow from s → EachBehind from n s
none_behind from n s below = All-weaker (λ (p : ℕ × Entry). p.0 < from) (λ (p : ℕ × Entry). from ≤ p.0 → n ≤ p.0) (λ p lt le. absurd (omega (arith, lt, le))) s.own below

less_behind : (from m n : ℕ) (s : SeatState) → m ≤ n → EachBehind from n s → EachBehind from m s
less_behind from m n s le behind = All-weaker (λ (p : ℕ × Entry). from ≤ p.0 → n ≤ p.0) (λ (p : ℕ × Entry). from ≤ p.0 → m ≤ p.0) (λ p at from'. omega (arith, le, at from')) s.own behind

within_weaker : (P Q : SeatState → Type 0) (seats : List SeatState) (i : ℕ) → ((s : SeatState) → P s → Q s) → AllWithin P seats 0 i → AllWithin Q seats 0 i
within_weaker P Q seats i f all k d low high = f (get_or seats k d) (all k d low high)

pub first_more : (from : ℕ) (seats : List SeatState) (i : ℕ) (d : SeatState) (a b : Option ℕ) → i < length seats → IsFirstSo from seats i a → IsNextPlace from (get_or seats i d).own b → IsFirstSo from seats (i + 1) (least_of a b)
first_more from seats i d None None lt so next = more_within (EachBelow from) seats i d lt so next
first_more from seats i d None (Some n) lt so next = (
  next.0,
  (i, get_or seats i d, lt, get_or_default seats i (get_or seats i d) d lt, next.1),
  more_within (EachBehind from n) seats i d lt (within_weaker (EachBelow from) (EachBehind from n) seats i (none_behind from n) so) next.2,
)
first_more from seats i d (Some m) None lt so next = (so.0, so.1, more_within (EachBehind from m) seats i d lt so.2 (none_behind from m (get_or seats i d) next))
first_more from seats i d (Some m) (Some n) lt so next = step (cases_order n m)
  where
    first : m ≤ n → IsFirstSo from seats (i + 1) (Some (min m n))
    first le = subst (λ (l : ℕ). IsFirstSo from seats (i + 1) (Some l)) (omega (arith, le)) (so.0, so.1, more_within (EachBehind from m) seats i d lt so.2 (less_behind from m n (get_or seats i d) le next.2))

    second : n ≤ m → IsFirstSo from seats (i + 1) (Some (min m n))
    second le = subst (λ (l : ℕ). IsFirstSo from seats (i + 1) (Some l)) (omega (arith, le)) (
      next.0,
      (i, get_or seats i d, lt, get_or_default seats i (get_or seats i d) d lt, next.1),
      more_within (EachBehind from n) seats i d lt (within_weaker (EachBehind from m) (EachBehind from n) seats i (λ s. less_behind from n m s le) so.2) next.2,
    )

    step : (n ≡ m) ⊎ ((n < m) ⊎ (m < n)) → IsFirstSo from seats (i + 1) (Some (min m n))
    step (inr (inl more)) = second (omega (arith, more))
    step (inl same) = first (omega (arith, same))
    step (inr (inr less)) = first (omega (arith, less))
