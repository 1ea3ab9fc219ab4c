-- An event that lies in a schema has few items, and shares little with a row.
use Rattle.std.proofs.Common.{◌≡◌, ℕ, ℤ, ◌+◌, ◌*◌, ◌^◌, ◌<◌, ◌≤◌, Bool, true, false, cond, ltb, List, [], ◌∷◌, length, Option, Some, None, refl, arith}
use Rattle.std.specs.List.{sum_by}
use Rattle.std.proofs.lemmas.Bool.{and_parts, ltb-true}
use Rattle.std.proofs.lemmas.List.Sums.{sum_by-cons}
use Rattle.be_base.specs.declared.limits.TheConstants.{LOG_CHANGES}
use Rattle.be_base.specs.declared.names.AttrNo.{AttrNo}
use Rattle.be_model.specs.declared.changes.Row.{Row}
use Rattle.be_model.specs.Domains.{Range}
use Rattle.be_model.specs.Schemas.{Attributes, IsSchema, range_of}
use Rattle.be_model.specs.Forms.{attrs_rise}
use Rattle.be_model.specs.Matching.{Assignments, attrs_of}
use Rattle.be_model.specs.Lies.{lies_in, item_lies, event_lies}
use Rattle.be_model.specs.Rows.{has}
use Rattle.be_model.specs.Bounds.{bits_at, ranges_to, shared, visits_bound}
use Rattle.be_model.proofs.InSchema.{range_below}
use Rattle.be_model.proofs.RangeBits.{bits_few}

item_below : (s : Attributes) (item : AttrNo × List ℤ) → item_lies s item ≡ true → item.0.0 < length s
item_below s item h = by_range (range_of s item.0) refl h
  where
    by_range : (o : Option Range) → range_of s item.0 ≡ o → lies_in o item.1 ≡ true → item.0.0 < length s
    by_range None e k = absurd (cc)
    by_range (Some r) e k = range_below s item.0 r e

few_from : (s : Attributes) (item : AttrNo × List ℤ) (items : Assignments) → attrs_rise (attrs_of (item ∷ items)) ≡ true → event_lies s (item ∷ items) ≡ true → item.0.0 + length (item ∷ items) ≤ length s
few_from s item [] up lies = omega (arith, item_below s item ((and_parts (item_lies s item) true lies).0))
few_from s item (next ∷ items) up lies =
    let l = ltb-true item.0.0 next.0.0 ((and_parts (ltb item.0.0 next.0.0) (attrs_rise (attrs_of (next ∷ items))) up).0) in
    omega (arith, l, few_from s next items ((and_parts (ltb item.0.0 next.0.0) (attrs_rise (attrs_of (next ∷ items))) up).1) ((and_parts (item_lies s item) (event_lies s (next ∷ items)) lies).1))

-- there are no more items than attributes
pub few_items : (s : Attributes) (e : Assignments) → attrs_rise (attrs_of e) ≡ true → event_lies s e ≡ true → length e ≤ length s
few_items s [] up lies = omega arith
few_items s (item ∷ items) up lies = omega (arith, few_from s item items up lies)

few_ranges : (s : Attributes) (row : Row) (item : AttrNo × List ℤ) → IsSchema s → ranges_to s row item ≤ 33
few_ranges s row item f = by_test (has item.0 row) (bits_few s item.0 f)
  where
    by_test : (b : Bool) → bits_at s item.0 ≤ 32 → cond b (1 + bits_at s item.0) 0 ≤ 33
    by_test true h = omega arith
    by_test false h = omega arith

at_most : {X : Type 0} (f : X → ℕ) (m : ℕ) (xs : List X) → ((x : X) → f x ≤ m) → sum_by f xs ≤ length xs * m
at_most f m [] h = omega arith
at_most f m (x ∷ xs) h = omega (arith, sum_by-cons f x xs, h x, at_most f m xs h)

few_shared : (s : Attributes) (e : Assignments) (row : Row) → IsSchema s → attrs_rise (attrs_of e) ≡ true → event_lies s e ≡ true → shared s e row ≤ 8448
few_shared s e row f up lies =
    omega (arith, at_most (ranges_to s row) 33 e (λ item. few_ranges s row item f), few_items s e up lies, f.few)

-- 64 bits count what the bound allows
pub few_visits : (s : Attributes) (e : Assignments) (rows : List Row) → IsSchema s → attrs_rise (attrs_of e) ≡ true → event_lies s e ≡ true → length rows ≤ LOG_CHANGES → visits_bound s e rows < 2 ^ 64
few_visits s e rows f up lies few =
    omega (arith, at_most (shared s e) 8448 rows (λ row. few_shared s e row f up lies))
