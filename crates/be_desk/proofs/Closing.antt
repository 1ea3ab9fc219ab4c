-- The records of all seats against the list.
use Rattle.std.proofs.Common.{◌≡◌, ◌≢◌, ℕ, zero, suc, ◌+◌, ◌<◌, ◌≤◌, ◌==◌, ◌⊎◌, Bool, true, false, true≢false, cond, List, [], ◌∷◌, ◌++◌, length, Option, Some, None, slice_get, get_or, map, inl, inr, refl, sym, ap, ◌∙◌, subst, arith, length-append, append_assoc}
use Rattle.std.specs.List.{All, AllPairs, Any, Contains, filter}
use Rattle.std.proofs.lemmas.Bool.{cases_order, eq-eqb, eqb-true}
use Rattle.std.proofs.lemmas.List.{get_or_at, get_or_default, get_or-map, length-map}
use Rattle.std.proofs.lemmas.List.Elements.{All-cons, All-contains, All-head, All-nil, All-tail}
use Rattle.std.proofs.lemmas.Option.{slice_get-get_or, slice_get_within}
use Rattle.atomic_table.specs.Seated.{TableId}
use Rattle.be_base.specs.Lists.{BeginsWith}
use Rattle.be_change.specs.History.{Entry, session_of, placed_from}
use Rattle.be_change.proofs.Extends.{get-append}
use Rattle.be_mail.specs.Letters.{seat_of}
use Rattle.be_mail.specs.Passes.{Passes}
use Rattle.be_board.specs.Word.{own_of}
use Rattle.be_desk.specs.Seats.{SeatState, put_placed, placed_at, IsRecord, IsOfSeat}
use Rattle.be_desk.specs.Closing.{AreAllSeats, AreApart, KeepsRecord, AreRecorded, AreKept, IsListed, pairs_at, pair_of, merged, pairs_of, HasPlace, IsFirstPlace, entry_at, StrayState, Differ, IsStray, RisesFrom, IsBeside, IsKeptAt, AreKeptBelow, IsUnkeptAt}
use Rattle.be_desk.proofs.Places.{In, in_any, any_in}

-- the pair is the list's own
abbrev Stands : List Entry → ℕ × Entry → Type 0
Stands h p = slice_get h p.0 ≡ Some p.1

-- what a record shows beside the list

stands_put : (h : List Entry) (p : ℕ) (o : Option Entry) (rest : List (ℕ × Entry)) → slice_get h p ≡ o → All (Stands h) rest → All (Stands h) (put_placed p o rest)
stands_put h p None rest at all = all
stands_put h p (Some e) rest at all = All-cons (Stands h) (p, e) rest at all

stands_placed : (h : List Entry) (ps : List ℕ) → All (Stands h) (placed_at h ps)
stands_placed h [] = All-nil (Stands h)
stands_placed h (p ∷ ps) = stands_put h p (slice_get h p) (placed_at h ps) refl (stands_placed h ps)

rises_lower : (n m : ℕ) (own : List (ℕ × Entry)) → n ≤ m → RisesFrom m own → RisesFrom n own
rises_lower n m [] le up = tt
rises_lower n m (q ∷ qs) le up = (omega (arith, le, up.0), up.1)

rises_put : (n p : ℕ) (o : Option Entry) (rest : List (ℕ × Entry)) → n ≤ p → RisesFrom (p + 1) rest → RisesFrom n (put_placed p o rest)
rises_put n p None rest le up = rises_lower n (p + 1) rest (omega (arith, le)) up
rises_put n p (Some e) rest le up = (le, up)

rises_placed : (h : List Entry) (n : ℕ) (ps : List ℕ) → AllPairs (λ (i j : ℕ). i < j) ps → All (λ (p : ℕ). n ≤ p) ps → RisesFrom n (placed_at h ps)
rises_placed h n [] up from = tt
rises_placed h n (p ∷ ps) up from =
    rises_put n p (slice_get h p) (placed_at h ps) (All-head (λ (q : ℕ). n ≤ q) p ps from)
    (rises_placed h (p + 1) ps (λ i j d lt within. up (suc i) (suc j) d (omega (arith, lt)) (omega (arith, within))) (λ k d within. omega (arith, up zero (suc k) d (omega arith) (omega (arith, within)))))

-- of two lists, of which one begins the other, the shorter has the longer's entries
listed_either : (h made : List Entry) (p : ℕ) (e : Entry) → (BeginsWith h made) ⊎ (BeginsWith made h) → slice_get made p ≡ Some e → p < length h → slice_get h p ≡ Some e
listed_either h made p e (inl more) at within = ap (λ (l : List Entry). slice_get l p) more.1 ∙ get-append made more.0 p e at
listed_either h made p e (inr more) at within =
    let here : slice_get h p ≡ Some (get_or h p e) = slice_get-get_or h p e within in
    here ∙ (sym (ap (λ (l : List Entry). slice_get l p) more.1 ∙ get-append h more.0 p (get_or h p e) here) ∙ at)

pub beside : (boxes : List TableId) (h made : List Entry) (ps : List ℕ) (s : SeatState) → IsRecord made ps → s.own ≡ placed_at made ps → (BeginsWith h made) ⊎ (BeginsWith made h)
    → All (IsOfSeat (length boxes) s.passes.seat s.session) s.own → IsBeside boxes h s
beside boxes h made ps s r own either all = record {
  listed = subst (λ (l : List (ℕ × Entry)). All (IsListed (length h) h) l) (sym own)
      (λ k d lt within. listed_either h made _ _ either (stands_placed made ps k d lt) within);
  rising = subst (RisesFrom 0) (sym own) (rises_placed made 0 ps r.rising (λ k d lt. omega arith));
  own_all = all;
}

-- a record has just a session's entries, where it has each of them

in_above : (n p : ℕ) (own : List (ℕ × Entry)) → RisesFrom n own → In p own → n ≤ p
in_above n p [] up i = absurd i
in_above n p (q ∷ qs) up (inl is) = omega (arith, up.0, is)
in_above n p (q ∷ qs) up (inr i) = omega (arith, up.0, in_above (q.0 + 1) p qs up.1 i)

-- from the place n on, each entry of the session has its place in the record
abbrev HasAll : ℕ → List Entry → ℕ → List (ℕ × Entry) → Type 0
HasAll k h n own = (p : ℕ) (e : Entry) → n ≤ p → slice_get h p ≡ Some e → session_of e ≡ k → In p own

skipped : (k n : ℕ) (e : Entry) (es h : List Entry) (own : List (ℕ × Entry)) (b : Bool) → (session_of e == k) ≡ b → slice_get h n ≡ Some e → RisesFrom (n + 1) own → HasAll k h n own
    → placed_from k (n + 1) es ≡ own_of k own → cond b ((n, e) ∷ placed_from k (n + 1) es) (placed_from k (n + 1) es) ≡ own_of k own
skipped k n e es h own true is at up has rest = absurd (omega (arith, in_above (n + 1) n own up (has n e (omega arith) at (eqb-true (session_of e) k is))))
skipped k n e es h own false is at up has rest = rest

both : (b : Bool) (x : ℕ × Entry) (xs ys : List (ℕ × Entry)) → xs ≡ ys → cond b (x ∷ xs) xs ≡ cond b (x ∷ ys) ys
both true x xs ys same = ap (λ (l : List (ℕ × Entry)). x ∷ l) same
both false x xs ys same = same

matched : (k n : ℕ) (e : Entry) (P : List (ℕ × Entry)) (q : ℕ × Entry) (qs : List (ℕ × Entry)) → q ≡ (n, e) → P ≡ own_of k qs
    → cond (session_of e == k) ((n, e) ∷ P) P ≡ cond (session_of q.1 == k) (q ∷ own_of k qs) (own_of k qs)
matched k n e P q qs is rest =
    subst (λ (z : ℕ × Entry). cond (session_of e == k) ((n, e) ∷ P) P ≡ cond (session_of z.1 == k) (z ∷ own_of k qs) (own_of k qs)) (sym is) (both (session_of e == k) (n, e) P (own_of k qs) rest)

some_same : (x y : Entry) → Some x ≡ Some y → x ≡ y
some_same x y same = cc

none_some : (e : Entry) → None ≡ Some e → ⊥
none_some e same = absurd cc

some_at : (h : List Entry) (i : ℕ) → i < length h → (e : Entry) × (slice_get h i ≡ Some e)
some_at [] i lt = absurd (omega (arith, lt))
some_at (e ∷ es) i lt = (get_or (e ∷ es) i e, slice_get-get_or (e ∷ es) i e lt)

pair_is : (h : List Entry) (p : ℕ) (e : Entry) (q : ℕ × Entry) → q.0 ≡ p → slice_get h p ≡ Some e → slice_get h q.0 ≡ Some q.1 → q ≡ (p, e)
pair_is h p e q place at stands =
    let entry : q.1 ≡ e = some_same q.1 e (sym stands ∙ (ap (λ (n : ℕ). slice_get h n) place ∙ at)) in
    ap (λ (n : ℕ). (n, q.1)) place ∙ ap (λ (x : Entry). (p, x)) entry

has_later : (k n : ℕ) (h : List Entry) (q : ℕ × Entry) (qs : List (ℕ × Entry)) → q.0 ≡ n → HasAll k h n (q ∷ qs) → HasAll k h (n + 1) qs
has_later k n h q qs here has p e le at of = step (has p e (omega (arith, le)) at of)
  where
    step : In p (q ∷ qs) → In p qs
    step (inl is) = absurd (omega (arith, is, here, le))
    step (inr i) = i

entry_here : (h front : List Entry) (e : Entry) (es : List Entry) (n : ℕ) → h ≡ front ++ e ∷ es → n ≡ length front → slice_get h n ≡ Some e
entry_here h front e es n all long =
    let within : n < length (front ++ e ∷ es) = omega (arith, long, length-append front (e ∷ es)) in
    ap (λ (l : List Entry). slice_get l n) all ∙ (slice_get-get_or (front ++ e ∷ es) n e within ∙ ap (λ (x : Entry). Some x) (get_or_at front e es e n (sym long)))

by_place : (k n : ℕ) (h : List Entry) (e : Entry) (es : List Entry) (q : ℕ × Entry) (qs : List (ℕ × Entry)) → slice_get h n ≡ Some e → RisesFrom n (q ∷ qs) → All (Stands h) (q ∷ qs) → HasAll k h n (q ∷ qs)
    → (n ≡ q.0) ⊎ ((n < q.0) ⊎ (q.0 < n))
    → ((own : List (ℕ × Entry)) → RisesFrom (n + 1) own → All (Stands h) own → HasAll k h (n + 1) own → placed_from k (n + 1) es ≡ own_of k own)
    → placed_from k n (e ∷ es) ≡ own_of k (q ∷ qs)
by_place k n h e es q qs at up stands has (inl is) rest =
    matched k n e (placed_from k (n + 1) es) q qs (pair_is h n e q (sym is) at (All-head (Stands h) q qs stands))
    (rest qs (subst (λ (m : ℕ). RisesFrom (m + 1) qs) (sym is) up.1) (All-tail (Stands h) q qs stands) (has_later k n h q qs (sym is) has))
by_place k n h e es q qs at up stands has (inr (inr lt)) rest = absurd (omega (arith, lt, up.0))
by_place k n h e es q qs at up stands has (inr (inl lt)) rest =
    let up' : RisesFrom (n + 1) (q ∷ qs) = (omega (arith, lt), up.1) in
    skipped k n e es h (q ∷ qs) (session_of e == k) refl at up' has (rest (q ∷ qs) up' stands (λ p x le a of. has p x (omega (arith, le)) a of))

-- the entries of the session in the rest of the list, which begins at the place n
rest_kept : (k : ℕ) (h front es : List Entry) (n : ℕ) (own : List (ℕ × Entry)) → h ≡ front ++ es → n ≡ length front → RisesFrom n own → All (Stands h) own → HasAll k h n own
    → placed_from k n es ≡ own_of k own
rest_kept k h front [] n [] all long up stands has = refl
rest_kept k h front [] n (q ∷ qs) all long up stands has =
    absurd (omega (arith, slice_get_within h q.0 q.1 (All-head (Stands h) q qs stands), up.0, long, ap (λ (l : List Entry). length l) all, length-append front []))
rest_kept k h front (e ∷ es) n [] all long up stands has =
    let next : h ≡ (front ++ e ∷ []) ++ es = all ∙ sym (append_assoc front (e ∷ []) es) in
    let longer : n + 1 ≡ length (front ++ e ∷ []) = omega (arith, long, length-append front (e ∷ [])) in
    let at : slice_get h n ≡ Some e = entry_here h front e es n all long in
    skipped k n e es h [] (session_of e == k) refl at tt has (rest_kept k h (front ++ e ∷ []) es (n + 1) [] next longer tt stands (λ p x le a of. has p x (omega (arith, le)) a of))
rest_kept k h front (e ∷ es) n (q ∷ qs) all long up stands has =
    let next : h ≡ (front ++ e ∷ []) ++ es = all ∙ sym (append_assoc front (e ∷ []) es) in
    let longer : n + 1 ≡ length (front ++ e ∷ []) = omega (arith, long, length-append front (e ∷ [])) in
    let at : slice_get h n ≡ Some e = entry_here h front e es n all long in
    by_place k n h e es q qs at up stands has (cases_order n q.0) (λ own up' stands' has'. rest_kept k h (front ++ e ∷ []) es (n + 1) own next longer up' stands' has')

abbrev passes_in : SeatState → Passes
passes_in s = s.passes

pub are_apart : (boxes : List TableId) (seats : List SeatState) → AreAllSeats boxes seats → AreApart seats
are_apart boxes seats all i j d lt within =
    let once : (get_or (map passes_in seats) i d.passes).seat ≢ (get_or (map passes_in seats) j d.passes).seat = all.once i j d.passes lt (omega (arith, within, length-map seats passes_in)) in
    subst (λ (p : Passes). p.seat ≢ (get_or seats j d).passes.seat) (get_or-map passes_in seats i d d.passes (omega (arith, lt, within)))
    (subst (λ (q : Passes). (get_or (map passes_in seats) i d.passes).seat ≢ q.seat) (get_or-map passes_in seats j d d.passes within) once)

-- what was found is found at the one seat that has this number
only : (seats : List SeatState) (number : ℕ) (P : SeatState → Type 0) → AreApart seats → Any (λ (t : SeatState). (t.passes.seat ≡ number) × P t) seats → All (λ (s : SeatState). s.passes.seat ≡ number → P s) seats
only seats number P apart found j d within is = step (cases_order found.0 j)
  where
    x_at : get_or seats found.0 d ≡ found.1
    x_at = get_or_default seats found.0 d found.1 found.2 ∙ found.3

    number_at : (get_or seats found.0 d).passes.seat ≡ number
    number_at = ap (λ (s : SeatState). s.passes.seat) x_at ∙ found.4.0

    step : (found.0 ≡ j) ⊎ ((found.0 < j) ⊎ (j < found.0)) → P (get_or seats j d)
    step (inr (inl lt)) = absurd (apart found.0 j d lt within (number_at ∙ sym is))
    step (inl same) = subst P (sym x_at ∙ ap (λ (i : ℕ). get_or seats i d) same) found.4.1
    step (inr (inr lt)) = absurd (apart j found.0 d lt found.2 (is ∙ sym number_at))

keeps_record : (boxes : List TableId) (h : List Entry) (seats : List SeatState) → AreApart seats → AreKeptBelow (length h) (length boxes) h seats
    → All (IsBeside boxes h) seats → All (λ (s : SeatState). All (λ (p : ℕ × Entry). p.0 < length h) s.own) seats → All (KeepsRecord boxes h) seats
keeps_record boxes h seats apart kept besides low j d within k some is =
    let s : SeatState = get_or seats j d in
    let b : IsBeside boxes h s = besides j d within in
    rest_kept k h [] h 0 s.own refl refl b.rising (λ i x lt. b.listed i x lt (low j d within i x lt))
    (λ p e le at of. in_any p s.own
    (only seats (seat_of (length boxes) (session_of e)) (λ (t : SeatState). HasPlace p t.own) apart (kept p e (slice_get_within h p e at) at (omega (arith, of, some))) j d within
    (sym is ∙ ap (seat_of (length boxes)) (sym of))))

contains_pair : (h : List Entry) (p : ℕ) (e : Entry) (own : List (ℕ × Entry)) → All (IsListed (length h) h) own → slice_get h p ≡ Some e → HasPlace p own → Contains own (p, e)
contains_pair h p e own listed at found =
    let q : ℕ × Entry = found.1 in
    let low : p < length h = slice_get_within h p e at in
    let stands : slice_get h q.0 ≡ Some q.1 = subst (IsListed (length h) h) found.3 (listed found.0 q found.2) (omega (arith, found.4, low)) in
    (found.0, found.2, subst (λ (z : ℕ × Entry). get_or own found.0 z ≡ z) (pair_is h p e q found.4 at stands) found.3)

-- what stands in a record is of its seat
of_seat : (boxes : List TableId) (h : List Entry) (p : ℕ) (e : Entry) (s : SeatState) → IsBeside boxes h s → slice_get h p ≡ Some e → HasPlace p s.own → IsOfSeat (length boxes) s.passes.seat s.session (p, e)
of_seat boxes h p e s b at found = All-contains (IsOfSeat (length boxes) s.passes.seat s.session) s.own (p, e) b.own_all (contains_pair h p e s.own b.listed at found)

recorded : (n : ℕ) (boxes : List TableId) (h : List Entry) (seats : List SeatState) → AreKeptBelow n (length boxes) h seats → All (IsBeside boxes h) seats → AreRecorded n h seats
recorded n boxes h seats kept besides p e lt at some =
    let found = kept p e lt at some in
    let b : IsBeside boxes h found.1 = subst (IsBeside boxes h) found.3 (besides found.0 found.1 found.2) in
    (found.0, found.1, found.2, found.3, contains_pair h p e found.1.own b.listed at found.4.1)

pub are_kept : (boxes : List TableId) (h : List Entry) (seats : List SeatState) → AreApart seats → All (IsBeside boxes h) seats → AreKeptBelow (length h) (length boxes) h seats → IsFirstPlace (length h) seats None → AreKept boxes h seats
are_kept boxes h seats apart besides kept low = record { records = keeps_record boxes h seats apart kept besides low; entries = recorded (length h) boxes h seats kept besides }

-- the merge of the records

no_pair : (p : ℕ) (own : List (ℕ × Entry)) → (In p own → ⊥) → filter (λ (q : ℕ × Entry). q.0 == p) own ≡ []
no_pair p [] none = refl
no_pair p (q ∷ qs) none = step (q.0 == p) refl (no_pair p qs (λ i. none (inr i)))
  where
    step : (b : Bool) → (q.0 == p) ≡ b → filter (λ (z : ℕ × Entry). z.0 == p) qs ≡ [] → cond b (q ∷ filter (λ (z : ℕ × Entry). z.0 == p) qs) (filter (λ (z : ℕ × Entry). z.0 == p) qs) ≡ []
    step true is rest = absurd (none (inl (eqb-true q.0 p is)))
    step false is rest = rest

one_pair : (h : List Entry) (p n : ℕ) (e : Entry) (own : List (ℕ × Entry)) → slice_get h p ≡ Some e → RisesFrom n own → All (IsListed (length h) h) own → In p own → filter (λ (q : ℕ × Entry). q.0 == p) own ≡ (p, e) ∷ []
one_pair h p n e [] at up listed i = absurd i
one_pair h p n e (q ∷ qs) at up listed i = step (q.0 == p) refl i (one_pair h p (q.0 + 1) e qs at up.1 (All-tail (IsListed (length h) h) q qs listed))
  where
    rest : List (ℕ × Entry)
    rest = filter (λ (z : ℕ × Entry). z.0 == p) qs

    here : q.0 ≡ p → q ∷ rest ≡ (p, e) ∷ []
    here is =
        let low : q.0 < length h = omega (arith, is, slice_get_within h p e at) in
        let pair : q ≡ (p, e) = pair_is h p e q is at (All-head (IsListed (length h) h) q qs listed low) in
        ap (λ (z : ℕ × Entry). z ∷ rest) pair ∙ ap (λ (l : List (ℕ × Entry)). (p, e) ∷ l) (no_pair p qs (λ i'. absurd (omega (arith, in_above (q.0 + 1) p qs up.1 i', is))))

    step : (b : Bool) → (q.0 == p) ≡ b → In p (q ∷ qs) → (In p qs → rest ≡ (p, e) ∷ []) → cond b (q ∷ rest) rest ≡ (p, e) ∷ []
    step true is i' more = here (eqb-true q.0 p is)
    step false is (inl same) more = absurd (true≢false (sym (eq-eqb q.0 p same) ∙ is))
    step false is (inr i') more = more i'

no_pairs : (p : ℕ) (seats : List SeatState) → All (λ (s : SeatState). In p s.own → ⊥) seats → pairs_at p seats ≡ []
no_pairs p [] none = refl
no_pairs p (s ∷ ss) none =
    ap (λ (l : List (ℕ × Entry)). l ++ pairs_at p ss) (no_pair p s.own (All-head (λ (t : SeatState). In p t.own → ⊥) s ss none)) ∙ no_pairs p ss (All-tail (λ (t : SeatState). In p t.own → ⊥) s ss none)

one_of_pairs : (boxes : List TableId) (h : List Entry) (p : ℕ) (e : Entry) (seats : List SeatState) → slice_get h p ≡ Some e → AreApart seats → All (IsBeside boxes h) seats → IsKeptAt (length boxes) seats p e
    → pairs_at p seats ≡ (p, e) ∷ []
one_of_pairs boxes h p e [] at apart besides (k, x, lt, is, found) = absurd (omega (arith, lt))
one_of_pairs boxes h p e (s ∷ ss) at apart besides (zero, x, lt, is, found) =
    let b : IsBeside boxes h s = All-head (IsBeside boxes h) s ss besides in
    let here : In p s.own = in_any p s.own (subst (λ (t : SeatState). HasPlace p t.own) (sym is) found.1) in
    let number : s.passes.seat ≡ seat_of (length boxes) (session_of e) = ap (λ (t : SeatState). t.passes.seat) is ∙ found.0 in
    let none : pairs_at p ss ≡ [] = no_pairs p ss (λ j d within i. apart zero (suc j) d (omega arith) (omega (arith, within)) (number ∙ (of_seat boxes h p e (get_or ss j d) (besides (suc j) d (omega (arith, within))) at (any_in p (get_or ss j d).own i)).seat_is)) in
    ap (λ (l : List (ℕ × Entry)). l ++ pairs_at p ss) (one_pair h p 0 e s.own at b.rising b.listed here) ∙ ap (λ (l : List (ℕ × Entry)). (p, e) ∷ l) none
one_of_pairs boxes h p e (s ∷ ss) at apart besides (suc k, x, lt, is, found) =
    let b : IsBeside boxes h s = All-head (IsBeside boxes h) s ss besides in
    let within : k < length ss = omega (arith, lt) in
    let there : (get_or ss k s).passes.seat ≡ seat_of (length boxes) (session_of e) = ap (λ (t : SeatState). t.passes.seat) (get_or_default ss k s x within ∙ is) ∙ found.0 in
    let none : In p s.own → ⊥ = λ i. apart zero (suc k) s (omega arith) (omega (arith, within)) (sym (of_seat boxes h p e s b at (any_in p s.own i)).seat_is ∙ sym there) in
    ap (λ (l : List (ℕ × Entry)). l ++ pairs_at p ss) (no_pair p s.own none)
    ∙ one_of_pairs boxes h p e ss at (λ i j d lt' w. apart (suc i) (suc j) d (omega (arith, lt')) (omega (arith, w))) (All-tail (IsBeside boxes h) s ss besides) (k, x, within, is, found)

merged_at : (boxes : List TableId) (h : List Entry) (p : ℕ) (e : Entry) (seats : List SeatState) → AreApart seats → All (IsBeside boxes h) seats → slice_get h p ≡ Some e
    → (0 < session_of e → IsKeptAt (length boxes) seats p e) → pairs_at p seats ≡ pair_of p (Some e)
merged_at boxes h p e seats apart besides at kept = step (session_of e == 0) refl
  where
    opening : session_of e ≡ 0 → All (λ (s : SeatState). In p s.own → ⊥) seats
    opening is j d within i = absurd (omega (arith, is, (of_seat boxes h p e (get_or seats j d) (besides j d within) at (any_in p (get_or seats j d).own i)).somebody))

    step : (b : Bool) → (session_of e == 0) ≡ b → pairs_at p seats ≡ cond b [] ((p, e) ∷ [])
    step true is = no_pairs p seats (opening (eqb-true (session_of e) 0 is))
    step false is = one_of_pairs boxes h p e seats at apart besides (kept (somebody (session_of e) is))
      where
        somebody : (k : ℕ) → (k == 0) ≡ false → 0 < k
        somebody zero same = absurd (true≢false same)
        somebody (suc k) same = omega arith

merges : (n : ℕ) (boxes : List TableId) (h : List Entry) (seats : List SeatState) → AreApart seats → All (IsBeside boxes h) seats → n ≤ length h → AreKeptBelow n (length boxes) h seats → merged n seats ≡ pairs_of n h
merges zero boxes h seats apart besides le kept = refl
merges (suc n) boxes h seats apart besides le kept =
    let one : (e : Entry) → slice_get h n ≡ Some e → pairs_at n seats ≡ pair_of n (slice_get h n) =
    λ e at. merged_at boxes h n e seats apart besides at (λ some. kept n e (omega arith) at some) ∙ ap (pair_of n) (sym at) in
    let here : (e : Entry) × (slice_get h n ≡ Some e) = some_at h n (omega (arith, le)) in
    ap (λ (l : List (ℕ × Entry)). l ++ pairs_at n seats) (merges n boxes h seats apart besides (omega (arith, le)) (λ p e lt at some. kept p e (omega (arith, lt)) at some))
    ∙ ap (λ (l : List (ℕ × Entry)). pairs_of n h ++ l) (one here.0 here.1)

-- the place isn't the next one of any record
not_made : (boxes : List TableId) (h : List Entry) (seats : List SeatState) (at : ℕ) (made : Option ℕ) → All (IsBeside boxes h) seats → IsUnkeptAt (length boxes) h seats at → IsFirstPlace at seats made → made ≢ Some at
not_made boxes h seats at made besides unkept first is =
    let found = (subst (IsFirstPlace at seats) is first).1 in
    let s : SeatState = found.1 in
    let q : ℕ × Entry = found.4.1 in
    let place : q.0 ≡ at = found.4.4 in
    let b : IsBeside boxes h s = subst (IsBeside boxes h) found.3 (besides found.0 s found.2) in
    let low : at < length h = slice_get_within h at unkept.0 unkept.1 in
    let stands : slice_get h q.0 ≡ Some q.1 = subst (IsListed (length h) h) found.4.3 (b.listed found.4.0 q found.4.2) (omega (arith, place, low)) in
    let same : q ≡ (at, unkept.0) = pair_is h at unkept.0 q place unkept.1 stands in
    let of : IsOfSeat (length boxes) s.passes.seat s.session q = subst (IsOfSeat (length boxes) s.passes.seat s.session) found.4.3 (b.own_all found.4.0 q found.4.2) in
    let none : s.passes.seat ≡ seat_of (length boxes) (session_of unkept.0) → All (λ (z : ℕ × Entry). z.0 ≢ at) s.own =
    subst (λ (t : SeatState). t.passes.seat ≡ seat_of (length boxes) (session_of unkept.0) → All (λ (z : ℕ × Entry). z.0 ≢ at) t.own) found.3 (unkept.3 found.0 s found.2) in
    none (sym of.seat_is ∙ ap (λ (z : ℕ × Entry). seat_of (length boxes) (session_of z.1)) same) found.4.0 q found.4.2 (ap (λ (z : ℕ × Entry). z.0) found.4.3 ∙ place)

differ : (boxes : List TableId) (h : List Entry) (seats : List SeatState) (at : ℕ) (made : Option ℕ) (o : Option Entry) → All (IsBeside boxes h) seats → at ≤ length h → slice_get h at ≡ o
    → (at < length h → IsUnkeptAt (length boxes) h seats at) → (at ≡ length h → made ≢ None) → IsFirstPlace at seats made → Differ at o made
differ boxes h seats at made None besides le is here end first = end (step (cases_order (length h) at))
  where
    never : (e : Entry) × (slice_get h at ≡ Some e) → ⊥
    never found = none_some found.0 (sym is ∙ found.1)

    step : (length h ≡ at) ⊎ ((length h < at) ⊎ (at < length h)) → at ≡ length h
    step (inl same) = sym same
    step (inr (inl lt)) = absurd (omega (arith, lt, le))
    step (inr (inr lt)) = absurd (never (some_at h at lt))
differ boxes h seats at made (Some e) besides le is here end first =
    let unkept = here (slice_get_within h at e is) in
    (subst (λ (x : Entry). 0 < session_of x) (some_same unkept.0 e (sym unkept.1 ∙ is)) unkept.2, not_made boxes h seats at made besides unkept first)

made_own : (boxes : List TableId) (h : List Entry) (seats : List SeatState) (at n : ℕ) (e : Entry) → All (IsBeside boxes h) seats → IsFirstPlace at seats (Some n) → slice_get h n ≡ Some e → Any (λ (t : SeatState). Contains t.own (n, e)) seats
made_own boxes h seats at n e besides first here =
    let found = first.1 in
    let b : IsBeside boxes h found.1 = subst (IsBeside boxes h) found.3 (besides found.0 found.1 found.2) in
    (found.0, found.1, found.2, found.3, contains_pair h n e found.1.own b.listed here found.4)

pub is_stray : (boxes : List TableId) (h : List Entry) (seats : List SeatState) (s : StrayState) → AreApart seats → All (IsBeside boxes h) seats → s.at ≤ length h → AreKeptBelow s.at (length boxes) h seats
    → (s.at < length h → IsUnkeptAt (length boxes) h seats s.at) → (s.at ≡ length h → s.made ≢ None) → IsFirstPlace s.at seats s.made → s.listed ≡ slice_get h s.at → s.change ≡ entry_at h s.made → IsStray h seats s
is_stray boxes h seats s apart besides le kept here end first listed change = record {
  within = le;
  merge = merges s.at boxes h seats apart besides le kept;
  listed = listed;
  made = first;
  change = change;
  own = λ n e made is. made_own boxes h seats s.at n e besides (subst (IsFirstPlace s.at seats) made first) (ap (entry_at h) (sym made) ∙ (sym change ∙ is));
  differ = subst (λ (o : Option Entry). Differ s.at o s.made) (sym listed) (differ boxes h seats s.at s.made (slice_get h s.at) besides le refl here end first);
}
