-- Which attributes many rows of a leaf have.
use Rattle.std.proofs.Common.{◌≡◌, ℕ, suc, ◌+◌, ◌-◌, ◌<◌, ◌≤◌, Bool, true, false, cond, ◌||◌, List, [], ◌∷◌, length, nat_le, take, get_or, slice_get, replicate, Some, refl, sym, ap, ◌∙◌, arith}
use Rattle.std.specs.Prelude.{IsPermutation}
use Rattle.std.specs.List.{count_by}
use Rattle.std.proofs.lemmas.Bool.{leb-true, le-leb, or_left, or_right}
use Rattle.std.proofs.lemmas.List.{get_or-replicate}
use Rattle.std.proofs.lemmas.List.Sums.{count_by_more_yes, count_by_more_no, count_by-le-length, sum_by-cons, sum_by-take-le}
use Rattle.std.proofs.lemmas.List.Sorted.{sum_by-IsPermutation}
use Rattle.std.proofs.lemmas.Option.{slice_get_within, get_or_from_slice_get}
use Rattle.be_base.specs.declared.names.AttrNo.{AttrNo}
use Rattle.be_base.specs.declared.limits.TheConstants.{EARLY_ROWS, LEAF_ROWS}
use Rattle.be_model.specs.declared.changes.Row.{Row}
use Rattle.be_model.specs.Rows.{has}
use Rattle.be_shape.specs.declared.listings.RowAttrs.{RowAttrs}
use Rattle.be_shape.specs.declared.listings.RowAttrs.TheVariants.{Zero, Many}
use Rattle.be_shape.specs.Listed.{is_many}
use Rattle.be_shape.specs.Common.{AreCommon, IsTold, Notes, is_listed, lists, lists_many}
use Rattle.be_shape.proofs.FewAttrs.{has_is_listed}

-- nothing is counted at first
pub told_none : (wanted : ℕ) → 0 < wanted → IsTold (replicate 256 0) wanted Zero
told_none wanted some = λ a l h m. absurd (let z = get_or-replicate {A = ℕ} 256 a 0 0 l in omega (arith, z, h, some))

-- one count after another: of each attribute one more is counted where either test holds
pub both : (bound : ℕ) (p q : ℕ → Bool) (c c1 c2 : List ℕ) → Notes (suc bound) p c c1 → Notes (suc bound) q c1 c2 → Notes bound (λ a. p a || q a) c c2
both bound p q c c1 c2 f g a n l b h = by_first (p a) (f a n l (omega (arith, b)) h)
  where
    by_first : (t : Bool) → n + cond t 1 0 ≤ get_or c1 a 0 → n + cond (t || q a) 1 0 ≤ get_or c2 a 0
    by_first true k = let e = g a (n + 1) l (omega (arith, b)) k in omega (arith, e)
    by_first false k = g a n l (omega (arith, b)) (omega (arith, k))

-- how many of the rows so far pass a test
pub one_more : {X : Type 0} (p : X → Bool) (rows : List X) (i : ℕ) (x : X) → slice_get rows i ≡ Some x → count_by p (take (i + 1) rows) ≡ count_by p (take i rows) + cond (p x) 1 0
one_more p rows i x at = by_test (p x) refl
  where
    is : get_or rows i x ≡ x
    is = get_or_from_slice_get rows i x x at

    by_test : (b : Bool) → p x ≡ b → count_by p (take (i + 1) rows) ≡ count_by p (take i rows) + cond b 1 0
    by_test true e = count_by_more_yes p rows i x (slice_get_within rows i x at) (ap p is ∙ e)
    by_test false e =
        let k = count_by_more_no p rows i x (slice_get_within rows i x at) (ap p is ∙ e) in omega (arith, k)

-- each attribute is counted for the rows so far
abbrev pub AreCounted : List Row → List ℕ → Type 0
AreCounted rows counts = (a : ℕ) → a < 256 → count_by (lists a) rows ≤ get_or counts a 0

pub counted_more : (rows : List Row) (i : ℕ) (x : Row) (c c1 : List ℕ) → length rows ≤ LEAF_ROWS + 1 → slice_get rows i ≡ Some x → Notes 253 (λ a. lists a x) c c1 → AreCounted (take i rows) c → AreCounted (take (i + 1) rows) c1
counted_more rows i x c c1 few at notes counted a l =
    let p = lists a in
    let most_rows = sum_by-take-le (λ row. cond (p row) 1 0) rows i in
    let all = count_by-le-length p rows in
    let e = one_more p rows i x at in
    let k = notes a (count_by p (take i rows)) l (omega arith) (counted a l) in omega (arith, e, k)

-- a row that passes one test passes one of two
pub fewer : {X : Type 0} (p q r : X → Bool) (xs : List X) → ((x : X) → p x ≡ true → (q x || r x) ≡ true) → count_by p xs ≤ count_by q xs + count_by r xs
fewer p q r [] f = omega arith
fewer p q r (x ∷ xs) f =
    let i = sum_by-cons (λ y. cond (p y) 1 0) x xs in
    let j = sum_by-cons (λ y. cond (q y) 1 0) x xs in
    let k = sum_by-cons (λ y. cond (r y) 1 0) x xs in
    let one = by_tests (p x) (q x) (r x) (f x) in
    let rest = fewer p q r xs f in omega (arith, i, j, k, one, rest)
  where
    by_tests : (a b c : Bool) → (a ≡ true → (b || c) ≡ true) → cond a 1 0 ≤ cond b 1 0 + cond c 1 0
    by_tests false b c f = omega arith
    by_tests true true c f = omega arith
    by_tests true false true f = omega arith
    by_tests true false false f = absurd (let k = f refl in cc)

-- a row that has an attribute lists it, or lists none
pub has_lists : (a : AttrNo) (row : Row) → has a row ≡ true → (lists a.0 row || lists_many row) ≡ true
has_lists a row h = by_many (lists_many row) refl
  where
    by_many : (b : Bool) → lists_many row ≡ b → (lists a.0 row || b) ≡ true
    by_many true e = or_right (lists a.0 row) true refl
    by_many false e = or_left (lists a.0 row) false (sym (has_is_listed row.conj a e) ∙ h)

pub many_common : (rows : List Row) → AreCommon rows Many
many_common rows = λ m. absurd (cc)

-- a row less
pub pulled_common : (rows rest : List Row) (row : Row) (l : RowAttrs) → IsPermutation rows (row ∷ rest) → AreCommon rows l → AreCommon rest l
pulled_common rows rest row l p told = λ m a b h.
    told m a b
    (let e = sum_by-IsPermutation (λ x. cond (has a x) 1 0) rows (row ∷ rest) p in
    let i = sum_by-cons (λ x. cond (has a x) 1 0) row rest in
    let k = leb-true EARLY_ROWS (count_by (has a) rest) h in le-leb EARLY_ROWS (count_by (has a) rows) (omega (arith, e, i, k)))

-- the same rows in another order
pub moved_common : (rows moved : List Row) (l : RowAttrs) → IsPermutation rows moved → AreCommon rows l → AreCommon moved l
moved_common rows moved l p told = λ m a b h.
    told m a b (ap (nat_le EARLY_ROWS) (sym (sum_by-IsPermutation (λ x. cond (has a x) 1 0) rows moved p)) ∙ h)

-- what is listed so often as is wanted beside rows that list none
pub told_common : (rows : List Row) (wanted many : ℕ) (l : RowAttrs) → many ≡ count_by lists_many rows → many < EARLY_ROWS → wanted ≡ EARLY_ROWS - many
    → ((a : ℕ) → a < 256 → wanted ≤ count_by (lists a) rows → is_many l ≡ false → is_listed a l ≡ true) → AreCommon rows l
told_common rows wanted many l e less w told = λ m a b h.
    told a.0 b
    (let k = leb-true EARLY_ROWS (count_by (has a) rows) h in
    let f = fewer (has a) (lists a.0) lists_many rows (has_lists a) in omega (arith, e, less, w, k, f))
    m
