-- Rows that are found by their names, and a row in the middle of others.
use Rattle.std.proofs.Common.{◌≡◌, ℕ, ◌<◌, ◌==◌, Bool, true, false, not, cond, List, [], ◌∷◌, ◌++◌, find, Option, Some, None, refl, ap, ◌∙◌, subst, arith}
use Rattle.std.proofs.lemmas.Bool.{eqb-true, both_ways, false_from_ne_true}
use Rattle.be_model.specs.declared.changes.Row.{Row}
use Rattle.be_model.specs.ByIds.{ByIds, Rising, AllAbove, row_at, without_id}
use Rattle.be_model.proofs.RisingIds.{row_at-first, row_at-later, row_at-above}
use Rattle.be_change.specs.History.{Text, Entry, live, has_name, is_live_name, IsWellFormed}
use Rattle.be_change.specs.Walk.{HasNameAt}
use Rattle.be_change.proofs.Free.{name_at_one}
use Rattle.be_change.proofs.Grows.{rising_live}
use Rattle.be_change.proofs.Names.{live_differ, found_live}
use Rattle.be_core.specs.World.{named}
use Rattle.be_core.proofs.Naming.{named_none, named_at}

-- the row of a name is the first that has it
pub named_is : (name : Text) (m : ByIds) → named name m ≡ find (has_name name) m
named_is name [] = refl
named_is name (x ∷ xs) = ap (λ (o : Option (ℕ × Row)). cond (has_name name x) (Some x) o) (named_is name xs)

-- the row that a name finds
pub record Found (h : List Entry) (id : ℕ) (name : Text) : Type 0 where
  pub row : ℕ × Row
  pub named_so : named name (live h) ≡ Some row
  pub id_is : row.0 ≡ id
  pub stands : row_at id (live h) ≡ Some row.1

pub found_at : (h : List Entry) (id : ℕ) (name : Text) → IsWellFormed h → HasNameAt (live h) id name → Found h id name
found_at h id name formed there = by_row (named name (live h)) refl
  where
    by_row : (o : Option (ℕ × Row)) → named name (live h) ≡ o → Found h id name
    by_row None is = absurd (both_ways (is_live_name name (live h)) (named_none name (live h) is) (found_live (live h) id name there))
    by_row (Some r) is =
        let at = named_at name (live h) r (rising_live h) is in
        let same : r.0 ≡ id = name_at_one (live h) r.0 id name (live_differ h formed) at.1 there in
        record { row = r; named_so = is; id_is = same; stands = subst (λ (i : ℕ). row_at i (live h) ≡ Some r.1) same at.0 }

pub same_some : (a b : Row) → Some a ≡ Some b → a ≡ b
same_some a b e = cc

-- no id above this one is this one
pub without_above : (id : ℕ) (m : ByIds) → AllAbove id m → without_id id m ≡ m
without_above id [] a = refl
without_above id (x ∷ xs) a =
    let other : (x.0 == id) ≡ false = false_from_ne_true (x.0 == id) (λ t. let same : x.0 ≡ id = eqb-true x.0 id t in absurd (omega (arith, a.0))) in
    ap (λ (b : Bool). cond (not b) (x ∷ without_id id xs) (without_id id xs)) other ∙ ap (λ (l : ByIds). x ∷ l) (without_above id xs a.1)

-- a row in the middle stands at its id, and the others are left without it
pub row_at-middle : (before : ByIds) (r : ℕ × Row) (after : ByIds) → Rising (before ++ r ∷ after) → row_at r.0 (before ++ r ∷ after) ≡ Some r.1
row_at-middle [] r after up = row_at-first r after r.0 refl
row_at-middle (x ∷ xs) r after up = row_at-later x (xs ++ r ∷ after) r.0 r.1 up (row_at-middle xs r after up.1)

pub without-middle : (before : ByIds) (r : ℕ × Row) (after : ByIds) → Rising (before ++ r ∷ after) → without_id r.0 (before ++ r ∷ after) ≡ before ++ after
without-middle [] r after up = step (r.0 == r.0) (own r.0) (without_above r.0 after up.0)
  where
    own : (n : ℕ) → (n == n) ≡ true
    own n = grind (arith)

    step : (b : Bool) → b ≡ true → without_id r.0 after ≡ after → cond (not b) (r ∷ without_id r.0 after) (without_id r.0 after) ≡ after
    step true is e = e
    step false is e = absurd cc
without-middle (x ∷ xs) r after up =
    let low : x.0 < r.0 = row_at-above x.0 r.0 (xs ++ r ∷ after) r.1 up.0 (row_at-middle xs r after up.1) in
    let other : (x.0 == r.0) ≡ false = false_from_ne_true (x.0 == r.0) (λ t. let same : x.0 ≡ r.0 = eqb-true x.0 r.0 t in absurd (omega (arith, low))) in
    ap (λ (b : Bool). cond (not b) (x ∷ without_id r.0 (xs ++ r ∷ after)) (without_id r.0 (xs ++ r ∷ after))) other ∙ ap (λ (l : ByIds). x ∷ l) (without-middle xs r after up.1)
