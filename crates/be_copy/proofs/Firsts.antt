-- The first row that is wanted, and the rows that are left when it is taken out.
use Rattle.std.proofs.Common.{◌≡◌, ℕ, ◌+◌, ◌≤◌, ◌<◌, ◌==◌, Bool, true, false, not, cond, List, [], ◌∷◌, length, filter, find, Option, Some, None, option_map, slice_get, nat_lt, ◌^◌, refl, sym, ap, ◌∙◌, subst, arith}
use Rattle.std.proofs.lemmas.Bool.{eqb-true, ltb-true, ltb-false}
use Rattle.be_base.specs.declared.limits.TheConstants.{LOG_CHANGES}
use Rattle.be_model.specs.declared.changes.Row.{Row}
use Rattle.be_model.specs.Rows.{id_of}
use Rattle.be_model.specs.ByIds.{ByIds, without_id, row_at, Rising}
use Rattle.be_model.proofs.RowsByIds.{found_says}
use Rattle.be_model.proofs.RisingIds.{row_at-above, row_at-later, row_at-first, row_at-below}
use Rattle.be_change.specs.History.{Entry}
use Rattle.be_change.specs.Entries.{row_in}
use Rattle.be_index.specs.Promise.{IsMap}
use Rattle.be_copy.specs.declared.register.Register.{Register}
use Rattle.be_copy.specs.declared.wanted.Wanted.{Wanted}
use Rattle.be_copy.specs.declared.wanted.Wanted.TheVariants.{Named, Own, Of}
use Rattle.be_copy.specs.Registers.{IsRegister, AreOfList, is_found, IsWantedRow}
use Rattle.be_copy.specs.Wanted.{wants}
use Rattle.be_copy.proofs.Filed.{row_at-without, not_wanted, is_there}

-- no row below this id passes the test
abbrev pub NoneBelow : (ℕ × Row → Bool) → ℕ → ByIds → Type 0
NoneBelow p id m = (i : ℕ) (row : Row) → i < id → row_at i m ≡ Some row → p (i, row) ≡ false

below_later : (p : ℕ × Row → Bool) (id : ℕ) (x : ℕ × Row) (xs : ByIds) → Rising (x ∷ xs) → NoneBelow p id (x ∷ xs) → NoneBelow p id xs
below_later p id x xs up none i row low at = none i row low (row_at-later x xs i row up at)

-- a row that passes, where none below it does, is the first
pub find_at : (p : ℕ × Row → Bool) (m : ByIds) (id : ℕ) (row : Row) → Rising m → row_at id m ≡ Some row → p (id, row) ≡ true → NoneBelow p id m → find p m ≡ Some (id, row)
find_at p [] id row up there wanted none = absurd cc
find_at p (x ∷ xs) id row up there wanted none = step (x.0 == id) refl there (λ e. find_at p xs id row up.1 e wanted (below_later p id x xs up none))
  where
    step : (b : Bool) → (x.0 == id) ≡ b → cond b (Some x.1) (row_at id xs) ≡ Some row → (row_at id xs ≡ Some row → find p xs ≡ Some (id, row)) → cond (p x) (Some x) (find p xs) ≡ Some (id, row)
    step true is e more =
        let same : x.1 ≡ row = cc in
        let pair : x ≡ (id, row) = ap (λ (n : ℕ). (n, x.1)) (eqb-true x.0 id is) ∙ ap (λ (r : Row). (id, r)) same in
        ap (λ (b : Bool). cond b (Some x) (find p xs)) (ap p pair ∙ wanted) ∙ ap (λ (r : ℕ × Row). Some r) pair
    step false is e more =
        ap (λ (b : Bool). cond b (Some x) (find p xs)) (none x.0 x.1 (row_at-above x.0 id xs row up.0 e) (row_at-first x xs x.0 refl)) ∙ more e

abbrev pub no_pair : Option (ℕ × Row)
no_pair = None

abbrev pub no_rows : ByIds
no_rows = []

abbrev pub nothing : Option Row
nothing = None

-- where no row passes there is no first
pub find_none : (p : ℕ × Row → Bool) (m : ByIds) → Rising m → ((i : ℕ) (row : Row) → row_at i m ≡ Some row → p (i, row) ≡ false) → find p m ≡ no_pair
find_none p [] up none = refl
find_none p (x ∷ xs) up none =
    ap (λ (b : Bool). cond b (Some x) (find p xs)) (none x.0 x.1 (row_at-first x xs x.0 refl))
    ∙ find_none p xs up.1 (λ i row at. none i row (row_at-later x xs i row up at))

-- where there is no first, all rows are left
pub none_goes : (p : ℕ × Row → Bool) (m : ByIds) → find p m ≡ no_pair → filter (λ (r : ℕ × Row). not (p r)) m ≡ m
none_goes p [] e = refl
none_goes p (x ∷ xs) e = step (p x) refl e (λ rest. none_goes p xs rest)
  where
    step : (b : Bool) → p x ≡ b → cond b (Some x) (find p xs) ≡ no_pair → (find p xs ≡ no_pair → filter (λ (r : ℕ × Row). not (p r)) xs ≡ xs)
        → cond (not b) (x ∷ filter (λ (r : ℕ × Row). not (p r)) xs) (filter (λ (r : ℕ × Row). not (p r)) xs) ≡ x ∷ xs
    step true is e more = absurd cc
    step false is e more = ap (λ (l : ByIds). x ∷ l) (more e)

pub unmapped : (o : Option (ℕ × Row)) → nothing ≡ option_map (λ (r : ℕ × Row). r.1) o → o ≡ no_pair
unmapped None e = refl
unmapped (Some r) e = absurd cc

-- of rows that don't pass, the same are left when one that passes is taken out
pub left_without : (p : ℕ × Row → Bool) (m : ByIds) (id : ℕ) → Rising m → ((r : ℕ × Row) → row_at r.0 m ≡ Some r.1 → (r.0 == id) ≡ true → p r ≡ true)
    → filter (λ (r : ℕ × Row). not (p r)) (without_id id m) ≡ filter (λ (r : ℕ × Row). not (p r)) m
left_without p [] id up goes = refl
left_without p (x ∷ xs) id up goes =
    step (x.0 == id) (p x) refl (λ e. goes x (row_at-first x xs x.0 refl) e) refl (left_without p xs id up.1 (λ r at. goes r (row_at-later x xs r.0 r.1 up at)))
  where
    q : ℕ × Row → Bool
    q r = not (p r)

    step : (b c : Bool) → (x.0 == id) ≡ b → ((x.0 == id) ≡ true → p x ≡ true) → p x ≡ c → filter (λ (r : ℕ × Row). not (p r)) (without_id id xs) ≡ filter (λ (r : ℕ × Row). not (p r)) xs
        → filter (λ (r : ℕ × Row). not (p r)) (cond (not b) (x ∷ without_id id xs) (without_id id xs)) ≡ cond (not c) (x ∷ filter (λ (r : ℕ × Row). not (p r)) xs) (filter (λ (r : ℕ × Row). not (p r)) xs)
    step true true is goes pass h = h
    step true false is goes pass h = let yes : p x ≡ true = goes is in absurd cc
    step false c is goes pass h =
        ap (λ (d : Bool). cond (not d) (x ∷ filter (λ (r : ℕ × Row). not (p r)) (without_id id xs)) (filter (λ (r : ℕ × Row). not (p r)) (without_id id xs))) pass
        ∙ ap (λ (l : ByIds). cond (not c) (x ∷ l) l) h

-- the wanted row that is taken out is the only one of its id
pub only_at : (p : ℕ × Row → Bool) (m : ByIds) (id : ℕ) (row : Row) → row_at id m ≡ Some row → p (id, row) ≡ true → (r : ℕ × Row) → row_at r.0 m ≡ Some r.1 → (r.0 == id) ≡ true → p r ≡ true
only_at p m id row there wanted r at is =
    let n : r.0 ≡ id = eqb-true r.0 id is in
    let both : Some r.1 ≡ Some row = sym at ∙ ap (λ (i : ℕ). row_at i m) n ∙ there in
    let same : r.1 ≡ row = cc in
    ap p (ap (λ (i : ℕ). (i, r.1)) n ∙ ap (λ (x : Row). (id, x)) same) ∙ wanted

short_if : (b : Bool) (x : ℕ × Row) (ys xs : ByIds) → length ys ≤ length xs → length (cond b (x ∷ ys) ys) ≤ length (x ∷ xs)
short_if true x ys xs h = omega arith
short_if false x ys xs h = omega arith

filter_short : (p : ℕ × Row → Bool) (m : ByIds) → length (filter p m) ≤ length m
filter_short p [] = omega arith
filter_short p (x ∷ xs) = short_if (p x) x (filter p xs) xs (filter_short p xs)

-- a row less
pub fewer : (m : ByIds) (id : ℕ) (row : Row) → row_at id m ≡ Some row → length (without_id id m) < length m
fewer [] id row e = absurd cc
fewer (x ∷ xs) id row e = step (x.0 == id) e (λ rest. fewer xs id row rest)
  where
    step : (b : Bool) → cond b (Some x.1) (row_at id xs) ≡ Some row → (row_at id xs ≡ Some row → length (without_id id xs) < length xs)
        → length (cond (not b) (x ∷ without_id id xs) (without_id id xs)) < length (x ∷ xs)
    step true e more = omega (arith, filter_short (λ (r : ℕ × Row). not (r.0 == id)) xs)
    step false e more = omega (arith, more e)

-- rows of a list stay rows of it when one is taken out
pub listed_without : (h : List Entry) (m : ByIds) (id : ℕ) → AreOfList h m → AreOfList h (without_id id m)
listed_without h m id all i row at = step (id == i) (sym (row_at-without id i m) ∙ at)
  where
    step : (b : Bool) → cond b nothing (row_at i m) ≡ Some row → row_in (slice_get h i) ≡ Some row
    step true e = absurd cc
    step false e = all i row e

-- a test of a wanted row doesn't look at its id
pub wants_anywhere : (w : Wanted) (i j : ℕ) (row : Row) → wants w (i, row) ≡ wants w (j, row)
wants_anywhere (Named name) i j row = refl
wants_anywhere (Own session name) i j row = refl
wants_anywhere (Of session) i j row = refl

-- what a look-up in the list finds at an id that the register found
pub record IsLookedUp (h : List Entry) (m : ByIds) (id : ℕ) : Type 0 where
  pub row : Row
  pub there : row_at id m ≡ Some row
  pub listed : row_in (slice_get h id) ≡ Some row
  pub own : id_of row ≡ id
  pub low : id < LOG_CHANGES

pub looked_up : (r : Register) (h : List Entry) (m : ByIds) (w : Wanted) (id : ℕ) → IsRegister r m → AreOfList h m → IsMap m → is_found r w id ≡ true → IsLookedUp h m id
looked_up r h m w id filed listed map found =
    let at = is_there r m w id filed found in
    record { row = at.0; there = at.1; listed = listed id at.0 at.1; own = (found_says id m at.0 map.say at.1).1; low = row_at-below LOG_CHANGES id m at.0 map.low at.1 }

-- and the row that the list lends is that row
pub lent_is : {X : Type 0} (f : X → Row) (o : Option X) (found : Option Row) (x : X) (row : Row) → o ≡ Some x → option_map f o ≡ found → found ≡ Some row → f x ≡ row
lent_is f o found x row is e k = let both : Some (f x) ≡ Some row = sym (ap (option_map f) is) ∙ e ∙ k in cc

-- no wanted row is passed over
pub none_passed : (r : Register) (m : ByIds) (w : Wanted) (from id : ℕ) → IsRegister r m → NoneBelow (wants w) from m → ((i : ℕ) → from ≤ i → i < id → is_found r w i ≡ false) → NoneBelow (wants w) id m
none_passed r m w from id filed none skipped i row low at = step (nat_lt i from) refl
  where
    step : (b : Bool) → nat_lt i from ≡ b → wants w (i, row) ≡ false
    step true e = none i row (ltb-true i from e) at
    step false e = not_wanted r m w i row filed (skipped i (ltb-false i from e) low) at

pub none_next : (m : ByIds) (w : Wanted) (id : ℕ) (row : Row) → NoneBelow (wants w) id m → row_at id m ≡ Some row → wants w (id, row) ≡ false → NoneBelow (wants w) (id + 1) m
none_next m w id row none there passed i other low at = step (nat_lt i id) refl
  where
    step : (b : Bool) → nat_lt i id ≡ b → wants w (i, other) ≡ false
    step true e = none i other (ltb-true i id e) at
    step false e =
        let high : id ≤ i = ltb-false i id e in
        let is : i ≡ id = omega arith in
        let both : Some other ≡ Some row = sym at ∙ ap (λ (j : ℕ). row_at j m) is ∙ there in
        let same : other ≡ row = cc in
        ap (λ (j : ℕ). wants w (j, other)) is ∙ ap (λ (x : Row). wants w (id, x)) same ∙ passed

pub none_at_all : (r : Register) (m : ByIds) (w : Wanted) (from : ℕ) → IsRegister r m → IsMap m → NoneBelow (wants w) from m → ((i : ℕ) → from ≤ i → i < 2 ^ 64 → is_found r w i ≡ false) → find (wants w) m ≡ no_pair
none_at_all r m w from filed map none skipped = find_none (wants w) m map.rising (λ i row at. step i row at (nat_lt i from) refl)
  where
    step : (i : ℕ) (row : Row) → row_at i m ≡ Some row → (b : Bool) → nat_lt i from ≡ b → wants w (i, row) ≡ false
    step i row at true e = none i row (ltb-true i from e) at
    step i row at false e =
        let low : i < LOG_CHANGES = row_at-below LOG_CHANGES i m row map.low at in
        let fits : i < 2 ^ 64 = omega arith in
        not_wanted r m w i row filed (skipped i (ltb-false i from e) fits) at

-- the row that the list lends at the next id is the first that is wanted
pub taken_row : (r : Register) (h : List Entry) (m : ByIds) (w : Wanted) (from id : ℕ) (lent : Row) → IsRegister r m → IsMap m → NoneBelow (wants w) from m
    → ((i : ℕ) → from ≤ i → i < id → is_found r w i ≡ false) → (at : IsLookedUp h m id) → lent ≡ at.row → wants w (id_of lent, lent) ≡ true
    → (Some lent ≡ option_map (λ (x : ℕ × Row). x.1) (find (wants w) m)) × IsWantedRow w m lent
taken_row r h m w from id lent filed map none skipped at is wanted =
    let own : wants w (id_of at.row, at.row) ≡ true = sym (ap (λ (x : Row). wants w (id_of x, x)) is) ∙ wanted in
    let here : wants w (id, at.row) ≡ true = wants_anywhere w id (id_of at.row) at.row ∙ own in
    let found = find_at (wants w) m id at.row map.rising at.there here (none_passed r m w from id filed none skipped) in
    let row : IsWantedRow w m at.row = record { there = ap (λ (i : ℕ). row_at i m) at.own ∙ at.there; wanted = own } in
    (ap (λ (x : Row). Some x) is ∙ sym (ap (option_map (λ (x : ℕ × Row). x.1)) found), subst (IsWantedRow w m) (sym is) row)

-- a row that isn't wanted is passed
pub passed_row : (r : Register) (h : List Entry) (m : ByIds) (w : Wanted) (from id : ℕ) (lent : Row) → IsRegister r m → NoneBelow (wants w) from m
    → ((i : ℕ) → from ≤ i → i < id → is_found r w i ≡ false) → (at : IsLookedUp h m id) → lent ≡ at.row → wants w (id_of lent, lent) ≡ false → NoneBelow (wants w) (id + 1) m
passed_row r h m w from id lent filed none skipped at is passed =
    let own : wants w (id_of at.row, at.row) ≡ false = sym (ap (λ (x : Row). wants w (id_of x, x)) is) ∙ passed in
    none_next m w id at.row (none_passed r m w from id filed none skipped) at.there (wants_anywhere w id (id_of at.row) at.row ∙ own)

-- where all rows pass, none is left
pub all_go : (p : ℕ × Row → Bool) (m : ByIds) → Rising m → ((i : ℕ) (row : Row) → row_at i m ≡ Some row → p (i, row) ≡ true) → no_rows ≡ filter (λ (r : ℕ × Row). not (p r)) m
all_go p [] up pass = refl
all_go p (x ∷ xs) up pass =
    all_go p xs up.1 (λ i row at. pass i row (row_at-later x xs i row up at))
    ∙ ap (λ (b : Bool). cond (not b) (x ∷ filter (λ (r : ℕ × Row). not (p r)) xs) (filter (λ (r : ℕ × Row). not (p r)) xs)) (sym (pass x.0 x.1 (row_at-first x xs x.0 refl)))
