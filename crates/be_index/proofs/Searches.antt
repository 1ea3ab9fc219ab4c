-- A search that goes through all rows.
use Rattle.std.proofs.Common.{◌≡◌, ◌+◌, ◌<◌, ◌≤◌, Bool, true, false, cond, List, [], ◌∷◌, ◌++◌, filter, length, Option, Some, None, Result, Ok, Err, OnOk, OnErr, refl, ap, ◌∙◌, arith}
use Rattle.std.specs.List.{list_all, count_by}
use Rattle.std.specs.Option.{is_some}
use Rattle.std.proofs.lemmas.List.Sums.{sum_by-cons}
use Rattle.std.proofs.lemmas.List.Sorted.{IsPermutation-refl}
use Rattle.std.proofs.lemmas.Bool.{and_parts, and_from}
use Rattle.be_model.specs.declared.preds.Pred.{Pred}
use Rattle.be_model.specs.declared.changes.Row.{Row}
use Rattle.be_model.specs.Schemas.{Attributes}
use Rattle.be_model.specs.Bounds.{IsWithinBound, is_covered}
use Rattle.be_model.specs.ByIds.{ByIds, rows_of, PutsEach}
use Rattle.be_model.specs.Matching.{Assignments, is_met, is_assigned, values_of, satisfies, satisfied}
use Rattle.be_index.specs.Rows.{plain_cost}

-- rows that are put in their order
pub puts_all : (wanted before after : List Row) → after ≡ before ++ wanted → PutsEach wanted before after
puts_all wanted before after h = record { found = wanted; put = h; exact = IsPermutation-refl wanted }

pub filter_all : {X : Type 0} (xs : List X) → filter (λ (x : X). true) xs ≡ xs
filter_all [] = refl
filter_all {X} (x ∷ xs) = ap (λ (l : List X). x ∷ l) (filter_all xs)

-- a predicate that is met has its attribute assigned
met_assigned : (e : Assignments) (p : Pred) → is_met (values_of e p.attr) p.op ≡ true → is_assigned e p.attr ≡ true
met_assigned e p = by_values (values_of e p.attr)
  where
    by_values : (v : Option _) → is_met v p.op ≡ true → is_some v ≡ true
    by_values None h = absurd cc
    by_values (Some vs) h = refl

satisfied_covered : (e : Assignments) (conj : List Pred) → satisfies e conj ≡ true → list_all (λ (p : Pred). is_assigned e p.attr) conj ≡ true
satisfied_covered e [] h = refl
satisfied_covered e (p ∷ ps) h =
    let both = and_parts (is_met (values_of e p.attr) p.op) (satisfies e ps) h in
    and_from (is_assigned e p.attr) (list_all (λ (q : Pred). is_assigned e q.attr) ps) (met_assigned e p both.0) (satisfied_covered e ps both.1)

-- each row that the event satisfies has no attribute but those that it assigns
few_satisfied : (e : Assignments) (rows : List Row) → length (satisfied e rows) ≤ count_by (is_covered e) rows
few_satisfied e [] = omega arith
few_satisfied e (row ∷ rows) = omega (arith, sum_by-cons (λ (x : Row). cond (is_covered e x) 1 0) row rows, step (satisfies e row.conj) (is_covered e row) (λ h. satisfied_covered e row.conj h), few_satisfied e rows)
  where
    step : (a b : Bool) → (a ≡ true → b ≡ true) → length (cond a (row ∷ satisfied e rows) (satisfied e rows)) ≤ cond b 1 0 + length (satisfied e rows)
    step true true h = omega arith
    step true false h = let no : false ≡ true = h refl in absurd cc
    step false true h = omega arith
    step false false h = omega arith

-- one visit, and a test of each covered row, are within the bound
pub plain_bound : (s : Attributes) (e : Assignments) (m : ByIds) → IsWithinBound s e (rows_of m) (plain_cost e m)
plain_bound s e m = record { some = omega arith; visits = omega arith; found = few_satisfied e (rows_of m); tested = omega arith }

-- what was put under one name is put under another
pub ok_puts : {A B : Type 0} (r : Result A B) (wanted named before after : List Row) → named ≡ wanted → OnOk r (after ≡ before ++ named) → OnOk r (PutsEach wanted before after)
ok_puts (Ok x) wanted named before after is h = puts_all wanted before after (h ∙ ap (λ (l : List Row). before ++ l) is)
ok_puts (Err x) wanted named before after is h = tt

pub err_some : {A B : Type 0} (r : Result A B) (wanted named : List Row) → named ≡ wanted → OnErr r (0 < length named) → OnErr r (0 < length wanted)
err_some (Ok x) wanted named is h = tt
err_some (Err x) wanted named is h = omega (arith, h, ap length is)
