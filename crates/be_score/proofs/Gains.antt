-- What one more row gives an attribute.
use Rattle.std.proofs.Common.{◌≡◌, ℕ, ◌+◌, ◌*◌, ◌<◌, ◌≤◌, Bool, true, false, ◌||◌, not, cond, if◌then◌else◌, List, [], ◌∷◌, ◌++◌, length, refl, ap, ◌∙◌, arith}
use Rattle.std.specs.Prelude.{sum_by}
use Rattle.std.specs.List.{list_any}
use Rattle.std.proofs.lemmas.List.{length-append}
use Rattle.std.proofs.lemmas.List.Elements.{filter-append}
use Rattle.std.proofs.lemmas.List.Sums.{sum_by-append}
use Rattle.std.proofs.lemmas.List.Filters.{length-filter_both}
use Rattle.be_base.specs.declared.names.AttrNo.{AttrNo}
use Rattle.be_model.specs.declared.changes.Row.{Row}
use Rattle.be_model.specs.Domains.{Range}
use Rattle.be_model.specs.Schemas.{Attributes, range_of}
use Rattle.be_model.specs.Hulls.{span_in}
use Rattle.be_model.specs.Rows.{has}
use Rattle.std.specs.Prelude.{Option, Some, None}
use Rattle.be_score.specs.Scores.{weight_in, weight, with_attr, without_attr, gain}

one_by : (f : Row → ℕ) (row : Row) (b : Bool) → sum_by f (cond b (row ∷ []) []) ≡ (if b then f row else 0)
one_by f row true = omega arith
one_by f row false = refl

one_long : (row : Row) (b : Bool) → length (cond b (row ∷ []) []) ≡ (if b then 1 else 0)
one_long row true = refl
one_long row false = refl

pub gain-push : (s : Attributes) (rows : List Row) (row : Row) (a : AttrNo) → gain s (rows ++ row ∷ []) a ≡ gain s rows a + (if has a row then weight s a row else 0)
gain-push s rows row a =
    ap (sum_by (weight s a)) (filter-append (has a) rows (row ∷ [])) ∙ sum_by-append (weight s a) (with_attr a rows) (with_attr a (row ∷ [])) ∙ ap (λ n. gain s rows a + n) (one_by (weight s a) row (has a row))

pub count-push : (rows : List Row) (row : Row) (a : AttrNo) → length (with_attr a (rows ++ row ∷ [])) ≡ length (with_attr a rows) + (if has a row then 1 else 0)
count-push rows row a =
    ap length (filter-append (has a) rows (row ∷ [])) ∙ length-append (with_attr a rows) (with_attr a (row ∷ [])) ∙ ap (λ n. length (with_attr a rows) + n) (one_long row (has a row))

pub weight-bound : (s : Attributes) (a : AttrNo) (row : Row) → weight s a row ≤ 1000
weight-bound s a row = bound (range_of s a) (span_in s a row.conj)
  where
    bound : (d r : Option Range) → weight_in d r ≤ 1000
    bound None r = omega arith
    bound (Some d) None = omega arith
    bound (Some d) (Some r) = omega arith

-- the rows with the attribute and those without it are all
pub with_without : (rows : List Row) (a : AttrNo) → length (with_attr a rows) + length (without_attr a rows) ≡ length rows
with_without rows a = length-filter_both (has a) (λ (row : Row). not (has a row)) (λ row. refl) rows

pub gain-bound : (s : Attributes) (rows : List Row) (a : AttrNo) → gain s rows a ≤ 1000 * length rows
gain-bound s rows a = let n = with_without rows a in let m = sum_bound (with_attr a rows) in omega arith
  where
    sum_bound : (xs : List Row) → sum_by (weight s a) xs ≤ 1000 * length xs
    sum_bound [] = omega arith
    sum_bound (x ∷ xs) = let h = sum_bound xs in let w = weight-bound s a x in let e = sum_by-append (weight s a) (x ∷ []) xs in omega arith

-- some row has the attribute
pub some_with : (rows : List Row) (a : AttrNo) → 0 < length (with_attr a rows) → list_any (has a) rows ≡ true
some_with [] a h = absurd (omega arith)
some_with (row ∷ rows) a h = here (has a row) (some_with rows a) h
  where
    here : (b : Bool) → (0 < length (with_attr a rows) → list_any (has a) rows ≡ true) → 0 < length (cond b (row ∷ with_attr a rows) (with_attr a rows)) → b || list_any (has a) rows ≡ true
    here true later h = refl
    here false later h = later h

pub with_some : (rows : List Row) (a : AttrNo) → list_any (has a) rows ≡ true → 0 < length (with_attr a rows)
with_some [] a e = absurd (cc)
with_some (row ∷ rows) a e = here (has a row) (with_some rows a) e
  where
    here : (b : Bool) → (list_any (has a) rows ≡ true → 0 < length (with_attr a rows)) → b || list_any (has a) rows ≡ true → 0 < length (cond b (row ∷ with_attr a rows) (with_attr a rows))
    here true later e = omega arith
    here false later e = later e
