-- Where rows of an overfull leaf go.
use Rattle.std.proofs.Common.{◌≡◌, ◌<◌, ℕ, Bool, true, false, not, cond, leb, ltb, ◌&&◌, ◌||◌, List, [], ◌∷◌, Some, None, refl, sym, ap, ◌∙◌, subst, arith}
use Rattle.std.specs.List.{list_all, list_any, count_by}
use Rattle.std.proofs.lemmas.Bool.{and_parts, and_from, ltb-true, ltb-false, le-leb, or_left, or_right, or_parts, false≢true, eq-eqb}
use Rattle.std.proofs.lemmas.List.Sums.{sum_by-cons}
use Rattle.be_base.specs.declared.names.AttrNo.{AttrNo}
use Rattle.be_model.specs.declared.preds.Pred.{Pred}
use Rattle.be_model.specs.declared.changes.Row.{Row}
use Rattle.be_model.specs.declared.paths.Hop.{Hop}
use Rattle.be_model.specs.declared.paths.Hop.TheVariants.{Low, High}
use Rattle.be_model.specs.Hulls.{is_on}
use Rattle.be_model.specs.Rows.{has}
use Rattle.be_model.specs.Schemas.{Attributes}
use Rattle.be_shape.specs.Shape.{NodeRange, Known, can_split, is_used, is_stuck, is_between, spans_inside, lower, upper}
use Rattle.be_shape.specs.Children.{may_pass}
use Rattle.be_score.specs.Scores.{IsCandidate}
use Rattle.be_insert.specs.Filled.{better_half, half_for}

-- what is counted is there, and where nothing is counted, there is nothing
pub counted : (p : Row → Bool) (rows : List Row) → 0 < count_by p rows → list_any p rows ≡ true
counted p [] h = absurd (omega arith)
counted p (row ∷ rows) h = by_test (p row) refl (counted p rows)
  where
    by_test : (b : Bool) → p row ≡ b → (0 < count_by p rows → list_any p rows ≡ true) → (b || list_any p rows) ≡ true
    by_test true e more = refl
    by_test false e more = more (omega (arith, h, sum_by-cons (λ (y : Row). cond (p y) 1 0) row rows, ap {B = ℕ} (λ b. cond b 1 0) e))

pub none_counted : (p : Row → Bool) (rows : List Row) → count_by p rows ≡ 0 → list_any p rows ≡ false
none_counted p [] h = refl
none_counted p (row ∷ rows) h = by_test (p row) refl (none_counted p rows)
  where
    by_test : (b : Bool) → p row ≡ b → (count_by p rows ≡ 0 → list_any p rows ≡ false) → (b || list_any p rows) ≡ false
    by_test true e more = absurd (omega (arith, h, sum_by-cons (λ (y : Row). cond (p y) 1 0) row rows, ap {B = ℕ} (λ b. cond b 1 0) e))
    by_test false e more = more (omega (arith, h, sum_by-cons (λ (y : Row). cond (p y) 1 0) row rows, ap {B = ℕ} (λ b. cond b 1 0) e))

-- the half that is chosen encloses a row
pub chosen : (s : Attributes) (r : NodeRange) (rows : List Row) (hop : Hop) → half_for s r rows ≡ Some hop → list_any (may_pass s hop r) rows ≡ true
chosen s r rows hop h = by_split (can_split r) h
  where
    by_high : (low high : ℕ) (b : Bool) → ltb 0 high ≡ b → cond b (Some High) None ≡ Some hop → (0 < high → list_any (may_pass s High r) rows ≡ true) → list_any (may_pass s hop r) rows ≡ true
    by_high low high true e t f = let k : High ≡ hop = cc in subst (λ g. list_any (may_pass s g r) rows ≡ true) k (f (ltb-true 0 high e))
    by_high low high false e t f = absurd (cc)

    by_low : (low high : ℕ) (b : Bool) → (ltb 0 low && leb high low) ≡ b → cond b (Some Low) (cond (ltb 0 high) (Some High) None) ≡ Some hop → (0 < low → list_any (may_pass s Low r) rows ≡ true)
        → (0 < high → list_any (may_pass s High r) rows ≡ true) → list_any (may_pass s hop r) rows ≡ true
    by_low low high true e t f g =
        let k : Low ≡ hop = cc in subst (λ x. list_any (may_pass s x r) rows ≡ true) k (f (ltb-true 0 low (and_parts (ltb 0 low) (leb high low) e).0))
    by_low low high false e t f g = by_high low high (ltb 0 high) refl t g

    by_split : (b : Bool) → cond b (better_half (count_by (may_pass s Low r) rows) (count_by (may_pass s High r) rows)) None ≡ Some hop → list_any (may_pass s hop r) rows ≡ true
    by_split false t = absurd (cc)
    by_split true t =
        let low = count_by (may_pass s Low r) rows in
        let high = count_by (may_pass s High r) rows in
        by_low low high (ltb 0 low && leb high low) refl t (counted (may_pass s Low r) rows) (counted (may_pass s High r) rows)

-- where no half is chosen, neither encloses a row
pub no_half : (s : Attributes) (r : NodeRange) (rows : List Row) → half_for s r rows ≡ None → can_split r ≡ true → (list_any (may_pass s Low r) rows ≡ false) × (list_any (may_pass s High r) rows ≡ false)
no_half s r rows h splits =
    let low = count_by (may_pass s Low r) rows in
    let high = count_by (may_pass s High r) rows in
    let t : better_half low high ≡ None = sym (ap (λ b. cond b (better_half low high) None) splits) ∙ h in
    let z = by_low low high (ltb 0 low && leb high low) refl t in (none_counted (may_pass s Low r) rows z.0, none_counted (may_pass s High r) rows z.1)
  where
    zero_of : (n : ℕ) → ltb 0 n ≡ false → n ≡ 0
    zero_of n e = let l = ltb-false 0 n e in omega arith

    low_zero : (low high : ℕ) → high ≡ 0 → (ltb 0 low && leb high low) ≡ false → low ≡ 0
    low_zero low high z e = zero_of low (by_test (ltb 0 low) refl)
      where
        by_test : (b : Bool) → ltb 0 low ≡ b → b ≡ false
        by_test true k =
            absurd (false≢true (sym e ∙ and_from (ltb 0 low) (leb high low) k (le-leb high low (omega (arith, z)))))
        by_test false k = refl

    by_high : (low high : ℕ) (b : Bool) → ltb 0 high ≡ b → cond b (Some High) None ≡ None → (ltb 0 low && leb high low) ≡ false → (low ≡ 0) × (high ≡ 0)
    by_high low high true e t k = absurd (cc)
    by_high low high false e t k = let z = zero_of high e in (low_zero low high z k, z)

    by_low : (low high : ℕ) (b : Bool) → (ltb 0 low && leb high low) ≡ b → cond b (Some Low) (cond (ltb 0 high) (Some High) None) ≡ None → (low ≡ 0) × (high ≡ 0)
    by_low low high true e t = absurd (cc)
    by_low low high false e t = by_high low high (ltb 0 high) refl t e

-- where each attribute of the rows is used and no half encloses one, all are stuck
all_used : (used : List AttrNo) (conj : List Pred) → ((a : AttrNo) → list_any (is_on a) conj ≡ true → is_used used a ≡ true) → list_all (λ (p : Pred). is_used used p.attr) conj ≡ true
all_used used [] f = refl
all_used used (p ∷ ps) f =
    and_from (is_used used p.attr) (list_all (λ (q : Pred). is_used used q.attr) ps) (f p.attr (or_left (is_on p.attr p) (list_any (is_on p.attr) ps) (eq-eqb p.attr.0 p.attr.0 refl)))
    (all_used used ps (λ a h. f a (or_right (is_on a p) (list_any (is_on a) ps) h)))

between : (c l u : Bool) → (c ≡ true → (l ≡ false) × (u ≡ false)) → not (c && (l || u)) ≡ true
between false l u f = refl
between true l u f = let z = f refl in ap (λ b. not (b || u)) z.0 ∙ ap not z.1

pub all_stuck : (s : Attributes) (k : Known) (rows : List Row) → ((a : AttrNo) → list_any (has a) rows ≡ true → is_used k.used a ≡ true)
    → (can_split k.range ≡ true → (list_any (may_pass s Low k.range) rows ≡ false) × (list_any (may_pass s High k.range) rows ≡ false)) → list_all (is_stuck s k) rows ≡ true
all_stuck s k [] f g = refl
all_stuck s k (row ∷ rows) f g =
    and_from (is_stuck s k row) (list_all (is_stuck s k) rows)
    (and_from (list_all (λ (p : Pred). is_used k.used p.attr) row.conj) (is_between s k row) (all_used k.used row.conj (λ a h. f a (or_left (has a row) (list_any (has a) rows) h)))
    (between (can_split k.range) (spans_inside s (lower k.range) row) (spans_inside s (upper k.range) row) (λ c. let z = g c in ((or_parts (may_pass s Low k.range row) (list_any (may_pass s Low k.range) rows) z.0).0, (or_parts (may_pass s High k.range row) (list_any (may_pass s High k.range) rows) z.1).0))))
    (all_stuck s k rows (λ a h. f a (or_right (has a row) (list_any (has a) rows) h)) (λ c. let z = g c in ((or_parts (may_pass s Low k.range row) (list_any (may_pass s Low k.range) rows) z.0).1, (or_parts (may_pass s High k.range row) (list_any (may_pass s High k.range) rows) z.1).1)))

-- an attribute that some row has and that is no candidate is used
pub used_of : (used : List AttrNo) (rows : List Row) (a : AttrNo) → (IsCandidate rows used a → ⊥) → list_any (has a) rows ≡ true → is_used used a ≡ true
used_of used rows a none h = by_test (is_used used a) refl
  where
    by_test : (b : Bool) → is_used used a ≡ b → b ≡ true
    by_test true e = refl
    by_test false e = absurd (none (record { some = h; unused = e }))
