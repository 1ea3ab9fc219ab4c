-- Records of accepted changes: places in a list, each with its entry.
use Rattle.std.proofs.Common.{◌≡◌, ℕ, zero, suc, ◌+◌, ◌<◌, ◌≤◌, ◌==◌, Bool, true, false, ◌||◌, cond, List, [], ◌∷◌, ◌++◌, length, Option, Some, None, slice_get, get_or, refl, sym, ap, ◌∙◌, subst, arith, length-append}
use Rattle.std.specs.List.{All, AllPairs, list_any}
use Rattle.std.proofs.lemmas.Bool.{eq-eqb}
use Rattle.std.proofs.lemmas.List.Folds.{list_any-append}
use Rattle.std.proofs.lemmas.List.Elements.{All-append, All-cons, All-head, All-nil, All-tail}
use Rattle.std.proofs.lemmas.List.Quantifiers.{all_pairs_push}
use Rattle.be_change.specs.History.{Entry, session_of, is_leave_of}
use Rattle.be_board.specs.Word.{own_of, top}
use Rattle.be_desk.specs.Seats.{put_placed, placed_at, IsRecord}

abbrev below : ℕ → ℕ → Type 0
below n p = p < n

lower_more : (m n : ℕ) (ps : List ℕ) → m ≤ n → All (below m) ps → All (below n) ps
lower_more m n [] le low = All-nil (below n)
lower_more m n (p ∷ ps) le low =
    All-cons (below n) p ps (omega (arith, le, All-head (below m) p ps low)) (lower_more m n ps le (All-tail (below m) p ps low))

get_more : (h more : List Entry) (i : ℕ) → i < length h → slice_get (h ++ more) i ≡ slice_get h i
get_more [] more i low = absurd (omega (arith, low))
get_more (e ∷ es) more zero low = refl
get_more (e ∷ es) more (suc i) low = get_more es more i (omega (arith, low))

pub get_last : (h : List Entry) (e : Entry) → slice_get (h ++ e ∷ []) (length h) ≡ Some e
get_last [] e = refl
get_last (x ∷ xs) e = get_last xs e

-- the places say the same of a longer list
pub placed_more : (h more : List Entry) (ps : List ℕ) → All (below (length h)) ps → placed_at (h ++ more) ps ≡ placed_at h ps
placed_more h more [] low = refl
placed_more h more (p ∷ ps) low =
    ap (λ (o : Option Entry). put_placed p o (placed_at (h ++ more) ps)) (get_more h more p (All-head (below (length h)) p ps low))
    ∙ ap (λ (l : List (ℕ × Entry)). put_placed p (slice_get h p) l) (placed_more h more ps (All-tail (below (length h)) p ps low))

-- one more place, of this entry
placed_put : (h : List Entry) (p n : ℕ) (e : Entry) (ps : List ℕ) (o : Option Entry) → placed_at h (ps ++ n ∷ []) ≡ placed_at h ps ++ (n, e) ∷ []
    → put_placed p o (placed_at h (ps ++ n ∷ [])) ≡ put_placed p o (placed_at h ps) ++ (n, e) ∷ []
placed_put h p n e ps None rest = rest
placed_put h p n e ps (Some x) rest = ap (λ (l : List (ℕ × Entry)). (p, x) ∷ l) rest

placed_snoc : (h : List Entry) (n : ℕ) (e : Entry) (ps : List ℕ) → slice_get h n ≡ Some e → placed_at h (ps ++ n ∷ []) ≡ placed_at h ps ++ (n, e) ∷ []
placed_snoc h n e [] at = ap (λ (o : Option Entry). put_placed n o []) at
placed_snoc h n e (p ∷ ps) at = placed_put h p n e ps (slice_get h p) (placed_snoc h n e ps at)

-- the record after a change that is put last in a list that goes on where the seat's beginning ends
pub placed_grown : (made more : List Entry) (e : Entry) (ps : List ℕ) → All (below (length made)) ps
    → placed_at ((made ++ more) ++ e ∷ []) (ps ++ length (made ++ more) ∷ []) ≡ placed_at made ps ++ (length (made ++ more), e) ∷ []
placed_grown made more e ps low =
    placed_snoc ((made ++ more) ++ e ∷ []) (length (made ++ more)) e ps (get_last (made ++ more) e)
    ∙ ap (λ (l : List (ℕ × Entry)). l ++ (length (made ++ more), e) ∷ [])
    (placed_more (made ++ more) (e ∷ []) ps (lower_more (length made) (length (made ++ more)) ps (omega (arith, length-append made more)) low) ∙ placed_more made more ps low)

pub top-snoc : (own : List (ℕ × Entry)) (n : ℕ) (e : Entry) → top own ≤ n → top (own ++ (n, e) ∷ []) ≡ n + 1
top-snoc [] n e le = omega arith
top-snoc (p ∷ ps) n e le = omega (arith, le, top-snoc ps n e (omega (arith, le)))

-- a place that is below the length is one, wherever it is looked up
at_below : (m : ℕ) (ps : List ℕ) (k d : ℕ) → All (below m) ps → k < length ps → get_or ps k d < m
at_below m [] k d low lt = absurd (omega (arith, lt))
at_below m (p ∷ ps) zero d low lt = All-head (below m) p ps low
at_below m (p ∷ ps) (suc k) d low lt = at_below m ps k d (All-tail (below m) p ps low) (omega (arith, lt))

pub record_grown : (made more : List Entry) (e : Entry) (ps : List ℕ) → IsRecord made ps → IsRecord ((made ++ more) ++ e ∷ []) (ps ++ length (made ++ more) ∷ [])
record_grown made more e ps r =
    let n : ℕ = length (made ++ more) in
    let long : length ((made ++ more) ++ e ∷ []) ≡ n + 1 = length-append (made ++ more) (e ∷ []) in
    let low : All (below n) ps = lower_more (length made) n ps (omega (arith, length-append made more)) r.within in
    record {
      within = subst (λ (m : ℕ). All (below m) (ps ++ n ∷ [])) (sym long)
          (All-append (below (n + 1)) ps (n ∷ []) (lower_more n (n + 1) ps (omega arith) low) (All-cons (below (n + 1)) n [] (omega arith) (All-nil (below (n + 1)))));
      rising = all_pairs_push (λ (i j : ℕ). i < j) ps n r.rising (λ k d lt. at_below n ps k d low lt);
      last = long ∙ sym (ap top (placed_grown made more e ps r.within) ∙ top-snoc (placed_at made ps) n e (omega (arith, r.last, length-append made more)));
    }

-- of the changes of a session there is one more
pub own_of-snoc : (k n : ℕ) (e : Entry) (own : List (ℕ × Entry)) → session_of e ≡ k → own_of k (own ++ (n, e) ∷ []) ≡ own_of k own ++ (n, e) ∷ []
own_of-snoc k n e [] of = ap (λ (b : Bool). cond b ((n, e) ∷ []) []) (eq-eqb (session_of e) k of)
own_of-snoc k n e (p ∷ ps) of = step (session_of p.1 == k) (own_of-snoc k n e ps of)
  where
    step : (b : Bool) → own_of k (ps ++ (n, e) ∷ []) ≡ own_of k ps ++ (n, e) ∷ [] → cond b (p ∷ own_of k (ps ++ (n, e) ∷ [])) (own_of k (ps ++ (n, e) ∷ [])) ≡ cond b (p ∷ own_of k ps) (own_of k ps) ++ (n, e) ∷ []
    step true rest = ap (λ (l : List (ℕ × Entry)). p ∷ l) rest
    step false rest = rest

-- and it is the last one that tells whether the session has left
pub over-snoc : (k n : ℕ) (e : Entry) (own : List (ℕ × Entry)) → list_any (λ (p : ℕ × Entry). is_leave_of k p.1) own ≡ false
    → list_any (λ (p : ℕ × Entry). is_leave_of k p.1) (own ++ (n, e) ∷ []) ≡ is_leave_of k e
over-snoc k n e own present =
    list_any-append (λ (p : ℕ × Entry). is_leave_of k p.1) own ((n, e) ∷ []) ∙ ap (λ (b : Bool). b || (is_leave_of k e || false)) present ∙ last (is_leave_of k e)
  where
    last : (b : Bool) → (false || (b || false)) ≡ b
    last true = refl
    last false = refl

-- rising places below a number are no more than it
at_least : (ps : List ℕ) → AllPairs (λ (i j : ℕ). i < j) ps → (k : ℕ) → k < length ps → k ≤ get_or ps k 0
at_least ps rising zero lt = omega arith
at_least ps rising (suc k) lt =
    let before : k ≤ get_or ps k 0 = at_least ps rising k (omega (arith, lt)) in
    omega (arith, before, rising k (suc k) 0 (omega arith) lt)

few_places : (m : ℕ) (ps : List ℕ) → AllPairs (λ (i j : ℕ). i < j) ps → All (below m) ps → length ps ≤ m
few_places m [] rising low = omega arith
few_places m (p ∷ ps) rising low =
    omega (arith, at_least (p ∷ ps) rising (length ps) (omega arith), at_below m (p ∷ ps) (length ps) 0 low (omega arith))

placed_few : (h : List Entry) (ps : List ℕ) → length (placed_at h ps) ≤ length ps
placed_few h [] = omega arith
placed_few h (p ∷ ps) = step (slice_get h p) (placed_few h ps)
  where
    step : (o : Option Entry) → length (placed_at h ps) ≤ length ps → length (put_placed p o (placed_at h ps)) ≤ length (p ∷ ps)
    step None le = omega (arith, le)
    step (Some e) le = omega (arith, le)

own_few : (k : ℕ) (own : List (ℕ × Entry)) → length (own_of k own) ≤ length own
own_few k [] = omega arith
own_few k (p ∷ ps) = step (session_of p.1 == k) (own_few k ps)
  where
    step : (b : Bool) → length (own_of k ps) ≤ length ps → length (cond b (p ∷ own_of k ps) (own_of k ps)) ≤ length (p ∷ ps)
    step true le = omega (arith, le)
    step false le = omega (arith, le)

-- a session has had no more changes accepted than the seat's beginning of the list is long
pub serial_few : (made : List Entry) (ps : List ℕ) (k : ℕ) → IsRecord made ps → length (own_of k (placed_at made ps)) ≤ length made
serial_few made ps k r =
    omega (arith, own_few k (placed_at made ps), placed_few made ps, few_places (length made) ps r.rising r.within)
