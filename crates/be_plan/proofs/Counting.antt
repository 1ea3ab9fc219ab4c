-- How many rows pass a test, row by row, and whether enough have some attribute.
use Rattle.std.proofs.Common.{◌≡◌, ⊎_elim, ℕ, zero, suc, ◌+◌, ◌-◌, ◌<◌, ◌≤◌, leb, eqb, Bool, true, false, true≢false, not, cond, ◌||◌, List, [], ◌∷◌, length, take, drop, length-drop, slice_get, Some, refl, sym, ap, ◌∙◌, subst, arith}
use Rattle.std.specs.List.{list_all, list_any, count_by}
use Rattle.std.proofs.lemmas.Bool.{lt-leb, and_parts, and_from, or_cases, or_left, or_right, eqb-true, not_from_false, false_from_ne_true}
use Rattle.std.proofs.lemmas.List.Sums.{count_by-le-length, sum_by-take-drop}
use mathlib.Core.Logic.{dite}
use native.Mathlib.Decide.{ℕ_discrete}
use Rattle.be_base.specs.declared.names.AttrNo.{AttrNo}
use Rattle.be_base.specs.declared.limits.TheConstants.{ATTRIBUTES, EARLY_ROWS}
use Rattle.be_model.specs.declared.changes.Row.{Row}
use Rattle.be_model.specs.Lies.{row_lies}
use Rattle.be_model.specs.Rows.{has}
use Rattle.be_model.specs.Schemas.{Attributes, numbered}
use Rattle.be_score.proofs.Widths.{attr-below}
use Rattle.be_shape.specs.Common.{AreCommon}
use Rattle.be_shape.specs.Listed.{is_many, any_listed}
use Rattle.be_shape.specs.Shape.{is_used}
use Rattle.be_shape.specs.declared.listings.RowAttrs.{RowAttrs}
use Rattle.be_shape.specs.declared.listings.RowAttrs.TheVariants.{Zero, One, Two, Three, Many}
use Rattle.be_plan.specs.Splits.{is_had, any_is_had}
use Rattle.be_shape.proofs.Commons.{one_more}
use Rattle.be_plan.proofs.Counts.{some_pass}

-- rows of which some pass and the others fail
abbrev pub Fail : (Row → Bool) → List Row → ℕ → ℕ → Type 0
Fail p rows i fails = fails + count_by p (take i rows) ≡ i

pub fail_more : (p : Row → Bool) (rows : List Row) (i : ℕ) (x : Row) (fails next : ℕ) → slice_get rows i ≡ Some x → next + cond (p x) 1 0 ≡ fails + 1 → Fail p rows i fails → Fail p rows (i + 1) next
fail_more p rows i x fails next at e h = let m = one_more p rows i x at in omega (arith, m, e, h)

-- where too many fail, not enough pass
pub too_many : (p : Row → Bool) (rows : List Row) (i fails : ℕ) → EARLY_ROWS ≤ length rows → i ≤ length rows → Fail p rows i fails → length rows - EARLY_ROWS < fails → leb EARLY_ROWS (count_by p rows) ≡ false
too_many p rows i fails many in_rows h l =
    let both = sum_by-take-drop (λ row. cond (p row) 1 0) rows i in
    let rest = count_by-le-length p (drop i rows) in
    let left = length-drop i rows in lt-leb EARLY_ROWS (count_by p rows) (omega (arith, both, rest, left, many, in_rows, h, l))

-- one below a number
pub had_below : (used : List AttrNo) (rows : List Row) (n m : ℕ) → n < m → is_had used rows (numbered n) ≡ true → any_is_had used rows m ≡ true
had_below used rows n zero l h = absurd (omega (arith, l))
had_below used rows n (suc m) l h = dite (ℕ_discrete n m)
    (λ e. or_right (any_is_had used rows m) (is_had used rows (numbered m)) (subst (λ k. is_had used rows (numbered k) ≡ true) e h))
    (λ ne. or_left (any_is_had used rows m) (is_had used rows (numbered m)) (had_below used rows n m (omega (arith, l, ne)) h))

-- rows that lie in the schema have attributes of it
some_below : (s : Attributes) (a : AttrNo) (rows : List Row) → list_all (row_lies s) rows ≡ true → list_any (has a) rows ≡ true → a.0 < length s
some_below s a [] lies h = absurd (true≢false (sym h))
some_below s a (row ∷ rows) lies h =
    let k = and_parts (row_lies s row) (list_all (row_lies s) rows) lies in by_test (has a row) refl h (some_below s a rows k.1) k.0
  where
    by_test : (b : Bool) → has a row ≡ b → (b || list_any (has a) rows) ≡ true → (list_any (has a) rows ≡ true → a.0 < length s) → row_lies s row ≡ true → a.0 < length s
    by_test true e o on l = attr-below s a row.conj l e
    by_test false e o on l = on o

-- where no attribute is had, too few rows have this one
pub too_few_have : (s : Attributes) (used : List AttrNo) (a : AttrNo) (rows : List Row) → list_all (row_lies s) rows ≡ true → list_any (has a) rows ≡ true → is_used used a ≡ false → any_is_had used rows (length s) ≡ false → leb EARLY_ROWS (count_by (has a) rows) ≡ false
too_few_have s used a rows lies some unused h = false_from_ne_true (leb EARLY_ROWS (count_by (has a) rows)) none
  where
    none : leb EARLY_ROWS (count_by (has a) rows) ≡ true → ⊥
    none e =
        let is = and_from (not (is_used used a)) (leb EARLY_ROWS (count_by (has a) rows)) (not_from_false (is_used used a) unused) e in
        true≢false (sym (had_below used rows a.0 (length s) (some_below s a rows lies some) is) ∙ h)

-- an attribute that is had is one of the schema
had_somewhere : (s : Attributes) (used : List AttrNo) (a : AttrNo) (rows : List Row) → list_all (row_lies s) rows ≡ true → is_had used rows a ≡ true → any_is_had used rows (length s) ≡ true
had_somewhere s used a rows lies h =
    let k = and_parts (not (is_used used a)) (leb EARLY_ROWS (count_by (has a) rows)) h in
    had_below used rows a.0 (length s) (some_below s a rows lies (some_pass (has a) rows k.1)) h

-- of attributes of which one is listed that passes a test, one passes it
one_of : (test : AttrNo → Bool) (l : RowAttrs) (R : Type 0) → ((a : AttrNo) → test a ≡ true → R) → any_listed test l ≡ true → R
one_of test Zero R f h = absurd (true≢false (sym h))
one_of test (One x) R f h = f (numbered x) h
one_of test (Two x y) R f h = ⊎_elim (f (numbered x)) (f (numbered y)) (or_cases (test (numbered x)) (test (numbered y)) h)
one_of test (Three x y z) R f h =
    ⊎_elim (λ k. ⊎_elim (f (numbered x)) (f (numbered y)) (or_cases (test (numbered x)) (test (numbered y)) k)) (f (numbered z)) (or_cases (test (numbered x) || test (numbered y)) (test (numbered z)) h)
one_of test Many R f h = absurd (true≢false (sym h))

-- the listed one that is this one passes the test too
listed_same : (test : AttrNo → Bool) (a : AttrNo) (l : RowAttrs) → test a ≡ true → any_listed (λ (b : AttrNo). eqb b.0 a.0) l ≡ true → any_listed test l ≡ true
listed_same test a l t e = by_list l e
  where
    same : (x : ℕ) → eqb x a.0 ≡ true → test (numbered x) ≡ true
    same x k = ap (λ n. test (numbered n)) (eqb-true x a.0 k) ∙ t

    either : (x y : ℕ) → (eqb x a.0 || eqb y a.0) ≡ true → (test (numbered x) || test (numbered y)) ≡ true
    either x y k = ⊎_elim (λ i. or_left (test (numbered x)) (test (numbered y)) (same x i)) (λ i. or_right (test (numbered x)) (test (numbered y)) (same y i)) (or_cases (eqb x a.0) (eqb y a.0) k)

    by_list : (m : RowAttrs) → any_listed (λ (b : AttrNo). eqb b.0 a.0) m ≡ true → any_listed test m ≡ true
    by_list Zero k = absurd (true≢false (sym k))
    by_list (One x) k = same x k
    by_list (Two x y) k = either x y k
    by_list (Three x y z) k =
        ⊎_elim (λ i. or_left (test (numbered x) || test (numbered y)) (test (numbered z)) (either x y i)) (λ i. or_right (test (numbered x) || test (numbered y)) (test (numbered z)) (same z i)) (or_cases (eqb x a.0 || eqb y a.0) (eqb z a.0) k)
    by_list Many k = absurd (true≢false (sym k))

-- where an attribute below a number is had, there is one
one_had : (used : List AttrNo) (rows : List Row) (n : ℕ) (R : Type 0) → ((a : AttrNo) → is_had used rows a ≡ true → R) → any_is_had used rows n ≡ true → R
one_had used rows zero R f h = absurd (true≢false (sym h))
one_had used rows (suc n) R f h = ⊎_elim (one_had used rows n R f) (f (numbered n)) (or_cases (any_is_had used rows n) (is_had used rows (numbered n)) h)

-- some attribute is had where one is of those that many rows have
pub common_had : (s : Attributes) (used : List AttrNo) (rows : List Row) (l : RowAttrs) → length s ≤ ATTRIBUTES → list_all (row_lies s) rows ≡ true → is_many l ≡ false → AreCommon rows l → any_listed (is_had used rows) l ≡ any_is_had used rows (length s)
common_had s used rows l small lies few common = by_tests (any_listed (is_had used rows) l) (any_is_had used rows (length s)) refl refl
  where
    listed : (a : AttrNo) → is_had used rows a ≡ true → any_listed (is_had used rows) l ≡ true
    listed a h =
        let k = and_parts (not (is_used used a)) (leb EARLY_ROWS (count_by (has a) rows)) h in
        let below = some_below s a rows lies (some_pass (has a) rows k.1) in listed_same (is_had used rows) a l h (common few a (omega (arith, below, small)) k.1)

    by_tests : (b c : Bool) → any_listed (is_had used rows) l ≡ b → any_is_had used rows (length s) ≡ c → b ≡ c
    by_tests true true e g = refl
    by_tests true false e g = sym (one_of (is_had used rows) l (any_is_had used rows (length s) ≡ true) (λ a. had_somewhere s used a rows lies) e) ∙ g
    by_tests false true e g = sym e ∙ one_had used rows (length s) (any_listed (is_had used rows) l ≡ true) listed g
    by_tests false false e g = refl
