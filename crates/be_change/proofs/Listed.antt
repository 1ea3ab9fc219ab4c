-- Each live row is that of the Sub at the place that is its id.
use Rattle.std.proofs.Common.{◌≡◌, ℕ, zero, suc, ◌+◌, not, ◌&&◌, Bool, true, false, cond, eqb, List, [], ◌∷◌, ◌++◌, length, filter, Some, slice_get, refl, sym, ap, ◌∙◌, subst, arith, length-append, append_assoc}
use Rattle.be_model.specs.declared.changes.Row.{Row}
use Rattle.be_model.specs.ByIds.{ByIds, row_at}
use Rattle.std.proofs.lemmas.Bool.{eqb-true}
use Rattle.be_change.specs.History.{Entry, subscribed, unsubscribed, left, live, live_from, after_entry, has_name, is_of}
use Rattle.be_change.specs.Entries.{row_in}

abbrev StandIn : List Entry → ByIds → Type 0
StandIn h [] = Unit {0}
StandIn h (r ∷ rs) = (row_in (slice_get h r.0) ≡ Some r.1) × StandIn h rs

-- what stands in a list stands in each longer one
stands_more : (h more : List Entry) (i : ℕ) (row : Row) → row_in (slice_get h i) ≡ Some row → row_in (slice_get (h ++ more) i) ≡ Some row
stands_more [] more i row e = absurd cc
stands_more (x ∷ xs) more zero row e = e
stands_more (x ∷ xs) more (suc i) row e = stands_more xs more i row e

all_more : (h more : List Entry) (m : ByIds) → StandIn h m → StandIn (h ++ more) m
all_more h more [] s = tt
all_more h more (r ∷ rs) s = (stands_more h more r.0 r.1 s.0, all_more h more rs s.1)

stands_if : (h : List Entry) (b : Bool) (r : ℕ × Row) (m : ByIds) → row_in (slice_get h r.0) ≡ Some r.1 → StandIn h m → StandIn h (cond b (r ∷ m) m)
stands_if h true r m e s = (e, s)
stands_if h false r m e s = s

all_kept : (h : List Entry) (p : ℕ × Row → Bool) (m : ByIds) → StandIn h m → StandIn h (filter p m)
all_kept h p [] s = tt
all_kept h p (r ∷ rs) s = stands_if h (p r) r (filter p rs) s.0 (all_kept h p rs s.1)

all_snoc : (h : List Entry) (m : ByIds) (r : ℕ × Row) → StandIn h m → row_in (slice_get h r.0) ≡ Some r.1 → StandIn h (m ++ r ∷ [])
all_snoc h [] r s e = (e, tt)
all_snoc h (x ∷ xs) r s e = (s.0, all_snoc h xs r s.1 e)

last_is : (h : List Entry) (e : Entry) → slice_get (h ++ e ∷ []) (length h) ≡ Some e
last_is [] e = refl
last_is (x ∷ xs) e = last_is xs e

all_after : (h : List Entry) (id : ℕ) (l : ByIds) (e : Entry) → id ≡ length h → StandIn h l → StandIn (h ++ e ∷ []) (after_entry l id e)
all_after h id l (subscribed k n row) is s =
    let e : Entry = subscribed k n row in
    all_snoc (h ++ e ∷ []) l (id, row) (all_more h (e ∷ []) l s) (ap (λ (i : ℕ). row_in (slice_get (h ++ e ∷ []) i)) is ∙ ap row_in (last_is h e))
all_after h id l (unsubscribed k n name) is s =
    let e : Entry = unsubscribed k n name in
    all_kept (h ++ e ∷ []) (λ r. not (is_of k r && has_name name r)) l (all_more h (e ∷ []) l s)
all_after h id l (left k n) is s =
    let e : Entry = left k n in
    all_kept (h ++ e ∷ []) (λ r. not (is_of k r)) l (all_more h (e ∷ []) l s)

all_from : (h : List Entry) (id : ℕ) (l : ByIds) (es : List Entry) → id ≡ length h → StandIn h l → StandIn (h ++ es) (live_from l id es)
all_from h id l [] is s = all_more h [] l s
all_from h id l (e ∷ es) is s =
    let longer : id + 1 ≡ length (h ++ e ∷ []) = omega (arith, length-append h (e ∷ [])) in
    subst (λ (all : List Entry). StandIn all (live_from (after_entry l id e) (id + 1) es)) (append_assoc h (e ∷ []) es)
    (all_from (h ++ e ∷ []) (id + 1) (after_entry l id e) es longer (all_after h id l e is s))

row_stands : (h : List Entry) (m : ByIds) (i : ℕ) (row : Row) → StandIn h m → row_at i m ≡ Some row → row_in (slice_get h i) ≡ Some row
row_stands h [] i row s e = absurd cc
row_stands h (x ∷ xs) i row s e = step (eqb x.0 i) refl e (λ rest. row_stands h xs i row s.1 rest)
  where
    step : (b : Bool) → eqb x.0 i ≡ b → cond b (Some x.1) (row_at i xs) ≡ Some row → (row_at i xs ≡ Some row → row_in (slice_get h i) ≡ Some row) → row_in (slice_get h i) ≡ Some row
    step true is e more = ap (λ (j : ℕ). row_in (slice_get h j)) (sym (eqb-true x.0 i is)) ∙ s.0 ∙ e
    step false is e more = more e

-- each live row is that of the Sub at the place that is its id
pub live_listed : (h : List Entry) (i : ℕ) (row : Row) → row_at i (live h) ≡ Some row → row_in (slice_get h i) ≡ Some row
live_listed h i row e = row_stands h (live h) i row (all_from [] 0 [] h refl tt) e
