-- A leaf from which no split is due: it has too few rows, or all are stuck.
use Rattle.std.proofs.Common.{◌≡◌, ℕ, ◌<◌, leb, eqb, Bool, true, false, true≢false, not, cond, ◌&&◌, ◌||◌, List, [], ◌∷◌, length, refl, sym, ap, ◌∙◌, subst}
use Rattle.std.specs.Prelude.{Option, Some, None}
use Rattle.std.specs.List.{list_all, list_any}
use Rattle.std.proofs.lemmas.Bool.{eqb-true, leb-false, or_parts, and_parts, and_from, not-true}
use Rattle.be_base.specs.declared.names.AttrNo.{AttrNo}
use Rattle.be_base.specs.declared.limits.TheConstants.{EARLY_ROWS, LEAF_ROWS}
use Rattle.be_model.specs.declared.changes.Row.{Row}
use Rattle.be_model.specs.declared.preds.Pred.{Pred}
use Rattle.be_model.specs.declared.paths.Hop.TheVariants.{Part, Low, High}
use Rattle.be_model.specs.Hulls.{is_on}
use Rattle.be_model.specs.Schemas.{Attributes, numbered}
use Rattle.be_model.specs.Lies.{row_lies}
use Rattle.be_model.specs.Rows.{has}
use Rattle.be_score.specs.Picks.{pick}
use Rattle.be_score.proofs.Picks.{picked}
use Rattle.be_shape.specs.Shape.{NodeRange, Known, is_used, can_split, is_stuck, spans_inside, lower, upper}
use Rattle.be_shape.specs.Children.{may_pass}
use Rattle.be_plan.specs.Splits.{enough_pass, any_is_had, where_enough, early_part, early_half}
use Rattle.be_plan.proofs.Counts.{too_few, not_enough}
use Rattle.be_plan.proofs.Counting.{too_few_have}

-- which leaves are looked at
abbrev pub still : List Row → Bool
still rows = not (leb EARLY_ROWS (length rows)) || not (leb (length rows) LEAF_ROWS)

abbrev pub settles : Attributes → Known → List Row → Bool
settles s k rows = leb (length rows) LEAF_ROWS || list_all (is_stuck s k) rows

-- of a still leaf: it has too few rows, or all are stuck
data Still (s : Attributes) (k : Known) (rows : List Row) : Type 0 where
  few : length rows < EARLY_ROWS → Still s k rows
  stuck : list_all (is_stuck s k) rows ≡ true → Still s k rows

still_is : (s : Attributes) (k : Known) (rows : List Row) → still rows ≡ true → settles s k rows ≡ true → Still s k rows
still_is s k rows h t = by_first (leb EARLY_ROWS (length rows)) refl h
  where
    by_second : (b : Bool) → leb (length rows) LEAF_ROWS ≡ b → (not b) ≡ true → (b || list_all (is_stuck s k) rows) ≡ true → Still s k rows
    by_second true e n u = absurd (true≢false (sym n))
    by_second false e n u = stuck u

    by_first : (b : Bool) → leb EARLY_ROWS (length rows) ≡ b → (not b || not (leb (length rows) LEAF_ROWS)) ≡ true → Still s k rows
    by_first false e n = few (leb-false EARLY_ROWS (length rows) e)
    by_first true e n = by_second (leb (length rows) LEAF_ROWS) refl n t

-- a stuck row has no attribute that isn't used
pub used_attr : (used : List AttrNo) (a : AttrNo) (conj : List Pred) → list_all (λ (p : Pred). is_used used p.attr) conj ≡ true → list_any (is_on a) conj ≡ true → is_used used a ≡ true
used_attr used a [] h o = absurd (true≢false (sym o))
used_attr used a (p ∷ conj) h o =
    let k = and_parts (is_used used p.attr) (list_all (λ (q : Pred). is_used used q.attr) conj) h in by_test (eqb p.attr.0 a.0) refl o k.0 (used_attr used a conj k.1)
  where
    by_test : (b : Bool) → eqb p.attr.0 a.0 ≡ b → (b || list_any (is_on a) conj) ≡ true → is_used used p.attr ≡ true → (list_any (is_on a) conj ≡ true → is_used used a ≡ true) → is_used used a ≡ true
    by_test true e n u on = subst (λ i. is_used used (numbered i) ≡ true) (eqb-true p.attr.0 a.0 e) u
    by_test false e n u on = on n

used_by : (s : Attributes) (k : Known) (a : AttrNo) (rows : List Row) → list_all (is_stuck s k) rows ≡ true → list_any (has a) rows ≡ true → is_used k.used a ≡ true
used_by s k a [] h o = absurd (true≢false (sym o))
used_by s k a (row ∷ rows) h o =
    let j = and_parts (is_stuck s k row) (list_all (is_stuck s k) rows) h in by_test (has a row) refl o j.0 (used_by s k a rows j.1)
  where
    by_test : (b : Bool) → has a row ≡ b → (b || list_any (has a) rows) ≡ true → is_stuck s k row ≡ true → (list_any (has a) rows ≡ true → is_used k.used a ≡ true) → is_used k.used a ≡ true
    by_test true e n u on =
        let all = (and_parts (list_all (λ (p : Pred). is_used k.used p.attr) row.conj) (not (can_split k.range && (spans_inside s (lower k.range) row || spans_inside s (upper k.range) row))) u).0 in used_attr k.used a row.conj all e
    by_test false e n u on = on n

pub still_part : (s : Attributes) (alpha : ℕ) (k : Known) (rows : List Row) → list_all (row_lies s) rows ≡ true → still rows ≡ true → settles s k rows ≡ true → None ≡ early_part s alpha k rows
still_part s alpha k rows lies h t = by_pick (pick s rows k.used alpha) refl
  where
    by_still : (a : AttrNo) → pick s rows k.used alpha ≡ Some a → Still s k rows → enough_pass s (Part a) k.range rows ≡ false
    by_still a e (few l) = too_few (has a) rows l
    by_still a e (stuck u) =
        let c = picked s rows k.used alpha a lies e in absurd (true≢false (sym (used_by s k a rows u c.some) ∙ c.unused))

    by_pick : (o : Option AttrNo) → pick s rows k.used alpha ≡ o → None ≡ where_enough s k.range rows o
    by_pick None e = refl
    by_pick (Some a) e = sym (ap (λ b. cond b (Some a) None) (by_still a e (still_is s k rows h t)))

-- a stuck row passes to no half
between : (s : Attributes) (k : Known) (rows : List Row) → can_split k.range ≡ true → list_all (is_stuck s k) rows ≡ true
    → (list_all (λ row. not (may_pass s Low k.range row)) rows ≡ true) × (list_all (λ row. not (may_pass s High k.range row)) rows ≡ true)
between s k [] c h = (refl, refl)
between s k (row ∷ rows) c h =
    let j = and_parts (is_stuck s k row) (list_all (is_stuck s k) rows) h in
    let low = spans_inside s (lower k.range) row in
    let high = spans_inside s (upper k.range) row in
    let b = (and_parts (list_all (λ (p : Pred). is_used k.used p.attr) row.conj) (not (can_split k.range && (low || high))) j.0).1 in
    let n : (low || high) ≡ false = not-true (low || high) (ap (λ t. not (t && (low || high))) (sym c) ∙ b) in
    let z = or_parts low high n in
    let rest = between s k rows c j.1 in
    (and_from (not low) (list_all (λ r. not (may_pass s Low k.range r)) rows) (ap not z.0) rest.0, and_from (not high) (list_all (λ r. not (may_pass s High k.range r)) rows) (ap not z.1) rest.1)

pub halves : (s : Attributes) (r : NodeRange) (rows : List Row) (c l h : Bool) → can_split r ≡ c → enough_pass s Low r rows ≡ l → enough_pass s High r rows ≡ h
    → early_half s r rows ≡ cond (c && l) (Some Low) (cond (c && h) (Some High) None)
halves s r rows c l h e f g =
    ap (λ t. cond (t && enough_pass s Low r rows) (Some Low) (cond (t && enough_pass s High r rows) (Some High) None)) e ∙ ap (λ t. cond (c && t) (Some Low) (cond (c && enough_pass s High r rows) (Some High) None)) f ∙ ap (λ t. cond (c && l) (Some Low) (cond (c && t) (Some High) None)) g

pub still_half : (s : Attributes) (k : Known) (rows : List Row) → still rows ≡ true → settles s k rows ≡ true → None ≡ early_half s k.range rows
still_half s k rows h t = by_range (can_split k.range) refl
  where
    by_still : Still s k rows → can_split k.range ≡ true → (enough_pass s Low k.range rows ≡ false) × (enough_pass s High k.range rows ≡ false)
    by_still (few l) c = (too_few (may_pass s Low k.range) rows l, too_few (may_pass s High k.range) rows l)
    by_still (stuck u) c = let z = between s k rows c u in (not_enough (may_pass s Low k.range) rows z.0, not_enough (may_pass s High k.range) rows z.1)

    by_range : (c : Bool) → can_split k.range ≡ c → None ≡ early_half s k.range rows
    by_range true e = let z = by_still (still_is s k rows h t) e in sym (halves s k.range rows true false false e z.0 z.1)
    by_range false e = sym (halves s k.range rows false (enough_pass s Low k.range rows) (enough_pass s High k.range rows) e refl refl)

-- no part is due where no attribute that isn't used is had by enough of the rows
pub closed_part : (s : Attributes) (alpha : ℕ) (k : Known) (rows : List Row) → list_all (row_lies s) rows ≡ true → any_is_had k.used rows (length s) ≡ false → None ≡ early_part s alpha k rows
closed_part s alpha k rows lies h = by_pick (pick s rows k.used alpha) refl
  where
    by_pick : (o : Option AttrNo) → pick s rows k.used alpha ≡ o → None ≡ where_enough s k.range rows o
    by_pick None e = refl
    by_pick (Some a) e =
        let c = picked s rows k.used alpha a lies e in sym (ap (λ b. cond b (Some a) None) (too_few_have s k.used a rows lies c.some c.unused h))
