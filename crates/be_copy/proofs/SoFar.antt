-- The wanted rows so far: those whose ids are below one.
use Rattle.std.proofs.Common.{◌≡◌, ℕ, ◌+◌, ◌≤◌, ◌<◌, ◌==◌, Bool, true, false, cond, ◌&&◌, List, [], ◌∷◌, ◌++◌, append_assoc, filter, length, Some, nat_lt, ◌^◌, refl, sym, ap, ◌∙◌, arith}
use Rattle.std.proofs.lemmas.List.{map-append}
use Rattle.std.proofs.lemmas.Bool.{eqb-true, ltb-false, lt-ltb, le-ltb}
use Rattle.be_base.specs.declared.limits.TheConstants.{LOG_CHANGES}
use Rattle.be_model.specs.declared.changes.Row.{Row}
use Rattle.be_model.specs.ByIds.{ByIds, row_at, rows_of, Rising}
use Rattle.be_model.specs.Rows.{id_of}
use Rattle.be_model.proofs.RisingIds.{row_at-above, row_at-later, row_at-first, row_at-below}
use Rattle.be_change.specs.History.{Entry}
use Rattle.be_index.specs.Promise.{IsMap}
use Rattle.be_copy.specs.declared.register.Register.{Register}
use Rattle.be_copy.specs.declared.wanted.Wanted.{Wanted}
use Rattle.be_copy.specs.Registers.{IsRegister, is_found}
use Rattle.be_copy.specs.Wanted.{wants}
use Rattle.be_copy.proofs.Filed.{not_wanted}
use Rattle.be_copy.proofs.Firsts.{IsLookedUp, wants_anywhere}

-- the rows that pass the test and whose ids are below this one
abbrev pub those_below : (ℕ × Row → Bool) → ℕ → ByIds → ByIds
those_below p id m = filter (λ (r : ℕ × Row). nat_lt r.0 id && p r) m

-- none is below the first id
pub none_yet : (p : ℕ × Row → Bool) (m : ByIds) → those_below p 0 m ≡ []
none_yet p [] = refl
none_yet p (x ∷ xs) = ap (λ b. cond (b && p x) (x ∷ those_below p 0 xs) (those_below p 0 xs)) (le-ltb x.0 0 (omega arith)) ∙ none_yet p xs

-- none is below an id that all are above
none_above : (p : ℕ × Row → Bool) (id : ℕ) (m : ByIds) → Rising m → ((r : ℕ × Row) → row_at r.0 m ≡ Some r.1 → id ≤ r.0) → those_below p id m ≡ []
none_above p id [] up above = refl
none_above p id (x ∷ xs) up above =
    ap (λ b. cond (b && p x) (x ∷ those_below p id xs) (those_below p id xs)) (le-ltb x.0 id (above x (row_at-first x xs x.0 refl)))
    ∙ none_above p id xs up.1 (λ r at. above r (row_at-later x xs r.0 r.1 up at))

-- no row from one id on, and before another, passes
abbrev pub NoneBetween : (ℕ × Row → Bool) → ℕ → ℕ → ByIds → Type 0
NoneBetween p from id m = (i : ℕ) (row : Row) → from ≤ i → i < id → row_at i m ≡ Some row → p (i, row) ≡ false

-- the next row joins those below it where it passes
pub next_joins : (p : ℕ × Row → Bool) (m : ByIds) (from id : ℕ) (row : Row) → Rising m → from ≤ id → row_at id m ≡ Some row → NoneBetween p from id m
    → those_below p (id + 1) m ≡ those_below p from m ++ cond (p (id, row)) ((id, row) ∷ []) []
next_joins p [] from id row up low there none = absurd cc
next_joins p (x ∷ xs) from id row up low there none = by_id (x.0 == id) refl there (λ e. next_joins p xs from id row up.1 low e (λ i other f l at. none i other f l (row_at-later x xs i other up at)))
  where
    c : ByIds
    c = cond (p (id, row)) ((id, row) ∷ []) []

    here : Bool → ByIds → ByIds
    here b l = cond (b && p x) (x ∷ l) l

    joined : (b : Bool) (l : ByIds) → cond b (x ∷ (l ++ c)) (l ++ c) ≡ cond b (x ∷ l) l ++ c
    joined true l = refl
    joined false l = refl

    by_from : (b : Bool) → nat_lt x.0 from ≡ b → x.0 < id → those_below p (id + 1) xs ≡ those_below p from xs ++ c → here (nat_lt x.0 (id + 1)) (those_below p (id + 1) xs) ≡ here (nat_lt x.0 from) (those_below p from xs) ++ c
    by_from true e under rest =
        ap (λ b. here b (those_below p (id + 1) xs)) (lt-ltb x.0 (id + 1) (omega (arith, under))) ∙ ap (here true) rest ∙ joined (p x) (those_below p from xs)
        ∙ sym (ap (λ b. here b (those_below p from xs) ++ c) e)
    by_from false e under rest =
        let out : p x ≡ false = none x.0 x.1 (ltb-false x.0 from e) under (row_at-first x xs x.0 refl) in
        ap (λ b. here b (those_below p (id + 1) xs)) (lt-ltb x.0 (id + 1) (omega (arith, under))) ∙ ap (λ b. cond b (x ∷ those_below p (id + 1) xs) (those_below p (id + 1) xs)) out ∙ rest
        ∙ sym (ap (λ b. here b (those_below p from xs) ++ c) e)

    by_id : (b : Bool) → (x.0 == id) ≡ b → cond b (Some x.1) (row_at id xs) ≡ Some row → (row_at id xs ≡ Some row → those_below p (id + 1) xs ≡ those_below p from xs ++ c)
        → here (nat_lt x.0 (id + 1)) (those_below p (id + 1) xs) ≡ here (nat_lt x.0 from) (those_below p from xs) ++ c
    by_id true is e more =
        let n : x.0 ≡ id = eqb-true x.0 id is in
        let same : x.1 ≡ row = cc in
        let pair : x ≡ (id, row) = ap (λ (i : ℕ). (i, x.1)) n ∙ ap (λ (r : Row). (id, r)) same in
        let behind = none_above p (id + 1) xs up.1 (λ r at. let k = row_at-above x.0 r.0 xs r.1 up.0 at in omega (arith, k, n)) in
        let before = none_above p from xs up.1 (λ r at. let k = row_at-above x.0 r.0 xs r.1 up.0 at in omega (arith, k, n, low)) in
        ap (λ b. here b (those_below p (id + 1) xs)) (lt-ltb x.0 (id + 1) (omega (arith, n))) ∙ ap (here true) behind ∙ ap (λ (r : ℕ × Row). cond (p r) (r ∷ []) []) pair
        ∙ sym (ap (λ b. here b (those_below p from xs) ++ c) (le-ltb x.0 from (omega (arith, n, low))) ∙ ap (λ l. l ++ c) before)
    by_id false is e more = by_from (nat_lt x.0 from) refl (row_at-above x.0 id xs row up.0 e) (more e)

-- where no row from this id on passes, all that pass are below it
pub all_below : (p : ℕ × Row → Bool) (m : ByIds) (id : ℕ) → Rising m → ((i : ℕ) (row : Row) → id ≤ i → row_at i m ≡ Some row → p (i, row) ≡ false) → those_below p id m ≡ filter p m
all_below p [] id up none = refl
all_below p (x ∷ xs) id up none =
    by_id (nat_lt x.0 id) refl (all_below p xs id up.1 (λ i row l at. none i row l (row_at-later x xs i row up at)))
  where
    by_id : (b : Bool) → nat_lt x.0 id ≡ b → those_below p id xs ≡ filter p xs → cond (nat_lt x.0 id && p x) (x ∷ those_below p id xs) (those_below p id xs) ≡ cond (p x) (x ∷ filter p xs) (filter p xs)
    by_id true e rest = ap (λ b. cond (b && p x) (x ∷ those_below p id xs) (those_below p id xs)) e ∙ ap (λ l. cond (p x) (x ∷ l) l) rest
    by_id false e rest =
        ap (λ b. cond (b && p x) (x ∷ those_below p id xs) (those_below p id xs)) e ∙ rest
        ∙ sym (ap (λ b. cond b (x ∷ filter p xs) (filter p xs)) (none x.0 x.1 (ltb-false x.0 id e) (row_at-first x xs x.0 refl)))

-- what the register finds is what is wanted
pub none_skipped : (r : Register) (m : ByIds) (w : Wanted) (from id : ℕ) → IsRegister r m → ((i : ℕ) → from ≤ i → i < id → is_found r w i ≡ false) → NoneBetween (wants w) from id m
none_skipped r m w from id filed skipped i row low high at = not_wanted r m w i row filed (skipped i low high) at

pub none_left : (r : Register) (m : ByIds) (w : Wanted) (from : ℕ) → IsRegister r m → IsMap m → ((i : ℕ) → from ≤ i → i < 2 ^ 64 → is_found r w i ≡ false) → those_below (wants w) from m ≡ filter (wants w) m
none_left r m w from filed map skipped =
    all_below (wants w) m from map.rising (λ i row low at. let under : i < LOG_CHANGES = row_at-below LOG_CHANGES i m row map.low at in not_wanted r m w i row filed (skipped i low (omega arith)) at)

of_one : (b : Bool) (id : ℕ) (row : Row) → cond b (row ∷ []) [] ≡ rows_of (cond b ((id, row) ∷ []) [])
of_one true id row = refl
of_one false id row = refl

-- the row that the list lends at the next id joins the rows so far where it is wanted
pub lent_joins : (r : Register) (h : List Entry) (m : ByIds) (w : Wanted) (from id : ℕ) (lent : Row) (before so_far after : List Row) → IsRegister r m → IsMap m → from ≤ id → ((i : ℕ) → from ≤ i → i < id → is_found r w i ≡ false)
    → (at : IsLookedUp h m id) → lent ≡ at.row → so_far ≡ before ++ rows_of (those_below (wants w) from m) → after ≡ so_far ++ cond (wants w (id_of lent, lent)) (lent ∷ []) []
    → after ≡ before ++ rows_of (those_below (wants w) (id + 1) m)
lent_joins r h m w from id lent before so_far after filed map low skipped at is so e =
    let p = wants w in
    let c = cond (p (id, at.row)) ((id, at.row) ∷ []) [] in
    let here : p (id_of lent, lent) ≡ p (id, at.row) = ap (λ (x : Row). p (id_of x, x)) is ∙ sym (wants_anywhere w id (id_of at.row) at.row) in
    let one : cond (p (id_of lent, lent)) (lent ∷ []) [] ≡ rows_of c = ap (λ b. cond b (lent ∷ []) []) here ∙ ap (λ (x : Row). cond (p (id, at.row)) (x ∷ []) []) is ∙ of_one (p (id, at.row)) id at.row in
    let all : rows_of (those_below p (id + 1) m) ≡ rows_of (those_below p from m) ++ rows_of c = ap rows_of (next_joins p m from id at.row map.rising low at.there (none_skipped r m w from id filed skipped)) ∙ map-append (λ (x : ℕ × Row). x.1) (those_below p from m) c in
    e ∙ ap (λ l. l ++ cond (p (id_of lent, lent)) (lent ∷ []) []) so ∙ ap (λ l. before ++ rows_of (those_below p from m) ++ l) one ∙ append_assoc before (rows_of (those_below p from m)) (rows_of c) ∙ ap (λ l. before ++ l) (sym all)

-- a row that passes is one of those that pass
pub some_passes : (p : ℕ × Row → Bool) (m : ByIds) (id : ℕ) (row : Row) → row_at id m ≡ Some row → p (id, row) ≡ true → 0 < length (filter p m)
some_passes p [] id row there ok = absurd cc
some_passes p (x ∷ xs) id row there ok = by_id (x.0 == id) refl there (λ e. some_passes p xs id row e ok)
  where
    longer : (b : Bool) → 0 < length (filter p xs) → 0 < length (cond b (x ∷ filter p xs) (filter p xs))
    longer true h = omega arith
    longer false h = h

    by_id : (b : Bool) → (x.0 == id) ≡ b → cond b (Some x.1) (row_at id xs) ≡ Some row → (row_at id xs ≡ Some row → 0 < length (filter p xs)) → 0 < length (cond (p x) (x ∷ filter p xs) (filter p xs))
    by_id true is e more =
        let same : x.1 ≡ row = cc in
        let pair : x ≡ (id, row) = ap (λ (i : ℕ). (i, x.1)) (eqb-true x.0 id is) ∙ ap (λ (r : Row). (id, r)) same in
        let here : p x ≡ true = ap p pair ∙ ok in
        let one : 0 < length (x ∷ filter p xs) = omega arith in
        omega (arith, one, ap (λ b. length (cond b (x ∷ filter p xs) (filter p xs))) here)
    by_id false is e more = longer (p x) (more e)
