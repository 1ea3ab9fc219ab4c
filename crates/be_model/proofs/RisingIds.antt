-- Rows by rising ids: one row more, fewer rows, and the look-up of a row.
use Rattle.std.proofs.Common.{◌≡◌, ℕ, zero, suc, ◌+◌, ◌<◌, ◌==◌, Bool, true, false, cond, [], ◌∷◌, ◌++◌, Option, Some, slice_get, nat_lt, refl, ap, ◌∙◌, arith, eq-eqb}
use Rattle.std.specs.Prelude.{filter}
use Rattle.std.proofs.lemmas.Bool.{eqb-true, or_from}
use Rattle.std.proofs.lemmas.Bool.Decides.{nat_tests}
use Rattle.be_model.specs.declared.changes.Row.{Row}
use Rattle.be_model.specs.Rows.{id_of}
use Rattle.be_model.specs.ByIds.{ByIds, AllBelow, AllAbove, Rising, SayIds, row_at, has_id, put_by_id}

pub AllBelow-snoc : (n : ℕ) (m : ByIds) (r : ℕ × Row) → AllBelow n m → r.0 < n + 1 → AllBelow (n + 1) (m ++ r ∷ [])
AllBelow-snoc n [] r b h = (h, tt)
AllBelow-snoc n (x ∷ xs) r b h = (omega (arith, b.0), AllBelow-snoc n xs r b.1 h)

below_if : (n : ℕ) (r : ℕ × Row) (m : ByIds) (b : Bool) → r.0 < n → AllBelow n m → AllBelow n (cond b (r ∷ m) m)
below_if n r m true h a = (h, a)
below_if n r m false h a = a

pub AllBelow-kept : (n : ℕ) (p : ℕ × Row → Bool) (m : ByIds) → AllBelow n m → AllBelow n (filter p m)
AllBelow-kept n p [] b = tt
AllBelow-kept n p (x ∷ xs) b = below_if n x (filter p xs) (p x) b.0 (AllBelow-kept n p xs b.1)

pub AllBelow-filter : (n : ℕ) (p : ℕ × Row → Bool) (m : ByIds) → AllBelow n m → AllBelow (n + 1) (filter p m)
AllBelow-filter n p [] b = tt
AllBelow-filter n p (x ∷ xs) b = below_if (n + 1) x (filter p xs) (p x) (omega (arith, b.0)) (AllBelow-filter n p xs b.1)

above_snoc : (n : ℕ) (m : ByIds) (r : ℕ × Row) → AllAbove n m → n < r.0 → AllAbove n (m ++ r ∷ [])
above_snoc n [] r a h = (h, tt)
above_snoc n (x ∷ xs) r a h = (a.0, above_snoc n xs r a.1 h)

pub Rising-snoc : (m : ByIds) (r : ℕ × Row) → Rising m → AllBelow r.0 m → Rising (m ++ r ∷ [])
Rising-snoc [] r a b = (tt, tt)
Rising-snoc (x ∷ xs) r a b = (above_snoc x.0 xs r a.0 b.0, Rising-snoc xs r a.1 b.1)

above_if : (n : ℕ) (r : ℕ × Row) (m : ByIds) (b : Bool) → n < r.0 → AllAbove n m → AllAbove n (cond b (r ∷ m) m)
above_if n r m true h a = (h, a)
above_if n r m false h a = a

above_filter : (n : ℕ) (p : ℕ × Row → Bool) (m : ByIds) → AllAbove n m → AllAbove n (filter p m)
above_filter n p [] a = tt
above_filter n p (x ∷ xs) a = above_if n x (filter p xs) (p x) a.0 (above_filter n p xs a.1)

rising_if : (r : ℕ × Row) (m : ByIds) (b : Bool) → AllAbove r.0 m → Rising m → Rising (cond b (r ∷ m) m)
rising_if r m true h a = (h, a)
rising_if r m false h a = a

-- rows that are left over from rising ones rise
pub Rising-filter : (p : ℕ × Row → Bool) (m : ByIds) → Rising m → Rising (filter p m)
Rising-filter p [] a = tt
Rising-filter p (x ∷ xs) a = rising_if x (filter p xs) (p x) (above_filter x.0 p xs a.0) (Rising-filter p xs a.1)

say_if : (b : Bool) (r : ℕ × Row) (m : ByIds) → id_of r.1 ≡ r.0 → SayIds m → SayIds (cond b (r ∷ m) m)
say_if true r m e a = (e, a)
say_if false r m e a = a

pub SayIds-filter : (p : ℕ × Row → Bool) (m : ByIds) → SayIds m → SayIds (filter p m)
SayIds-filter p [] a = tt
SayIds-filter p (x ∷ xs) a = say_if (p x) x (filter p xs) a.0 (SayIds-filter p xs a.1)

pub SayIds-snoc : (m : ByIds) (r : ℕ × Row) → SayIds m → id_of r.1 ≡ r.0 → SayIds (m ++ r ∷ [])
SayIds-snoc [] r a e = (e, tt)
SayIds-snoc (x ∷ xs) r a e = (a.0, SayIds-snoc xs r a.1 e)

above_at : (n id : ℕ) (x : ℕ × Row) (rest : Option Row) (row : Row) (b : Bool) → (x.0 == id) ≡ b → n < x.0 → (rest ≡ Some row → n < id) → cond b (Some x.1) rest ≡ Some row → n < id
above_at n id x rest row true is h k e = let same : x.0 ≡ id = eqb-true x.0 id is in omega arith
above_at n id x rest row false is h k e = k e

-- a row is found above what all ids are above
pub row_at-above : (n id : ℕ) (m : ByIds) (row : Row) → AllAbove n m → row_at id m ≡ Some row → n < id
row_at-above n id [] row a e = absurd cc
row_at-above n id (x ∷ xs) row a e = above_at n id x (row_at id xs) row (x.0 == id) refl a.0 (λ h. row_at-above n id xs row a.1 h) e

-- a row that is found among rising ids is found behind one with a lower id
pub row_at-later : (r : ℕ × Row) (m : ByIds) (id : ℕ) (row : Row) → Rising (r ∷ m) → row_at id m ≡ Some row → row_at id (r ∷ m) ≡ Some row
row_at-later r m id row a h =
    let below : r.0 < id = row_at-above r.0 id m row a.0 h in
    let apart : (r.0 == id) ≡ false = grind (arith, nat_tests) in
    ap (λ (b : Bool). cond b (Some r.1) (row_at id m)) apart ∙ h

-- the first row is found at its id
pub row_at-first : (r : ℕ × Row) (m : ByIds) (id : ℕ) → r.0 ≡ id → row_at id (r ∷ m) ≡ Some r.1
row_at-first r m id is = ap (λ (b : Bool). cond b (Some r.1) (row_at id m)) (eq-eqb r.0 id is)

-- each row is found at its id
pub row_at-each : (m : ByIds) (i : ℕ) (r : ℕ × Row) → Rising m → slice_get m i ≡ Some r → row_at r.0 m ≡ Some r.1
row_at-each [] i r a e = absurd cc
row_at-each (x ∷ xs) zero r a e =
    let same : x ≡ r = cc in
    row_at-first x xs r.0 (ap (λ (y : ℕ × Row). y.0) same) ∙ ap (λ (y : ℕ × Row). Some y.1) same
row_at-each (x ∷ xs) (suc i) r a e = row_at-later x xs r.0 r.1 a (row_at-each xs i r a.1 e)

-- no row has an id that all ids are below
pub above_is_new : (n id : ℕ) (m : ByIds) → id ≡ n → AllBelow n m → has_id id m ≡ false
above_is_new n id [] is b = refl
above_is_new n id (x ∷ xs) is b =
    let apart : (x.0 == id) ≡ false = grind (arith, nat_tests, b.0, is) in
    or_from (x.0 == id) (has_id id xs) apart (above_is_new n id xs is b.1)

-- a row whose id all ids are below is put last
pub put_greatest : (n : ℕ) (row : Row) (m : ByIds) → id_of row ≡ n → AllBelow n m → put_by_id row m ≡ m ++ (n, row) ∷ []
put_greatest n row [] is b = ap (λ (i : ℕ). (i, row) ∷ []) is
put_greatest n row (x ∷ xs) is b =
    let over : nat_lt (id_of row) x.0 ≡ false = grind (arith, nat_tests, b.0, is) in
    ap (λ (c : Bool). cond c ((id_of row, row) ∷ x ∷ xs) (x ∷ put_by_id row xs)) over ∙ ap (λ (l : ByIds). x ∷ l) (put_greatest n row xs is b.1)

-- a row is found below what all ids are below
pub row_at-below : (n id : ℕ) (m : ByIds) (row : Row) → AllBelow n m → row_at id m ≡ Some row → id < n
row_at-below n id [] row b e = absurd cc
row_at-below n id (x ∷ xs) row b e = step (x.0 == id) refl e (λ rest. row_at-below n id xs row b.1 rest)
  where
    step : (c : Bool) → (x.0 == id) ≡ c → cond c (Some x.1) (row_at id xs) ≡ Some row → (row_at id xs ≡ Some row → id < n) → id < n
    step true is e more = let same : x.0 ≡ id = eqb-true x.0 id is in omega (arith, b.0)
    step false is e more = more e
