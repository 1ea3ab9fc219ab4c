-- Ids that were found, put in order, and the names of their rows.
use Rattle.std.proofs.Common.{◌≡◌, ◌++◌, ℕ, zero, suc, ◌<◌, get_or, Bool, true, false, cond, List, [], ◌∷◌, filter, length, map, refl, sym, ap, ap₂, ◌∙◌, subst, arith}
use Rattle.std.specs.Prelude.{IsPermutation}
use Rattle.std.specs.List.{All, AllPairs}
use Rattle.std.specs.List.Sorted.{IsNonDecreasingBy}
use Rattle.std.proofs.lemmas.List.{length-map}
use Rattle.std.proofs.lemmas.List.Elements.{All-cons}
use Rattle.std.proofs.lemmas.List.Kept.{AllPairs-cons}
use Rattle.std.proofs.lemmas.List.Sorted.{IsPermutation-trans, IsPermutation-map, length_permutation}
use Rattle.be_base.specs.Text.{Text}
use Rattle.be_model.specs.declared.changes.Row.{Row}
use Rattle.be_model.specs.Rows.{id_of}
use Rattle.be_model.specs.ByIds.{ByIds, AllAbove, Rising, SayIds, rows_of}
use Rattle.be_model.proofs.Orders.{order_unique}
use Rattle.be_model.proofs.RisingIds.{row_at-first, row_at-later}
use Rattle.be_model.specs.Matching.{Assignments, FindsSome, satisfies}
use Rattle.be_model.proofs.RowsByIds.{rows_of-filter}
use Rattle.be_change.specs.History.{Entry, names_of, live, hit_rows}
use Rattle.be_change.specs.Walk.{live_rows}
use Rattle.be_index.specs.Ids.{ids_of}
use Rattle.be_index.specs.Names.{spaced}
use Rattle.be_index.specs.Puts.{PutsItems}
use Rattle.be_copy.specs.Hits.{spaced_name, spaced_of, spaced_at, all_spaced_at, all_texts_at}
use Rattle.be_copy.specs.Registers.{AreOfList}

ids_said : (m : ByIds) → SayIds m → map id_of (rows_of m) ≡ ids_of m
ids_said [] say = refl
ids_said (r ∷ m) say = ap₂ (λ (i : ℕ) (is : List ℕ). i ∷ is) say.0 (ids_said m say.1)

all_above : (n : ℕ) (m : ByIds) → AllAbove n m → All (λ (i : ℕ). n < i) (ids_of m)
all_above n [] above = λ k d l. absurd (omega (arith, l))
all_above n (r ∷ m) above = All-cons (λ (i : ℕ). n < i) r.0 (ids_of m) above.0 (all_above n m above.1)

ids_rise : (m : ByIds) → Rising m → AllPairs (λ (x y : ℕ). x < y) (ids_of m)
ids_rise [] rising = λ i j d l k. absurd (omega (arith, k))
ids_rise (r ∷ m) rising = AllPairs-cons (λ (x y : ℕ). x < y) r.0 (ids_of m) (all_above r.0 m rising.0) (ids_rise m rising.1)

-- the ids of the rows of a map, put each once behind none, and then in order, are those of the map
pub ids_in_order : (m : ByIds) (before found after : List ℕ) → Rising m → SayIds m → before ≡ [] → PutsItems id_of (rows_of m) before found → IsPermutation found after → IsNonDecreasingBy (λ id. id) after → after ≡ ids_of m
ids_in_order m before found after rising say none puts same ordered =
    let all : map id_of puts.found ≡ found = sym (puts.put ∙ ap (λ (is : List ℕ). is ++ map id_of puts.found) none) in
    let perm : IsPermutation (map id_of (rows_of m)) found = subst (IsPermutation (map id_of (rows_of m))) all (IsPermutation-map id_of (rows_of m) puts.found puts.exact) in
    order_unique (λ id. id) after (ids_of m) (subst (λ (is : List ℕ). IsPermutation is after) (ids_said m say) (IsPermutation-trans (map id_of (rows_of m)) found after perm same)) ordered (ids_rise m rising)

-- as many items as rows are put behind none
pub as_many_ids : (rows : List Row) (before found : List ℕ) → before ≡ [] → PutsItems id_of rows before found → length found ≡ length rows
as_many_ids rows before found none puts =
    ap length (puts.put ∙ ap (λ (is : List ℕ). is ++ map id_of puts.found) none) ∙ length-map puts.found id_of ∙ length_permutation rows puts.found puts.exact

-- the text of each entry stands at its place
spaced_there : (h : List Entry) (i : ℕ) → get_or (map spaced_of h) i [] ≡ spaced_at h i
spaced_there [] i = refl
spaced_there (e ∷ h) zero = refl
spaced_there (e ∷ h) (suc i) = spaced_there h i

pub all_there : (h : List Entry) (ids : List ℕ) → all_texts_at (map spaced_of h) ids ≡ all_spaced_at h ids
all_there h [] = refl
all_there h (i ∷ ids) = ap₂ (λ (text texts : Text). text ++ texts) (spaced_there h i) (all_there h ids)

-- at these ids stand the names of those that pass
pub names_kept : (h : List Entry) (p : ℕ × Row → Bool) (m : ByIds) → AreOfList h m → Rising m → all_spaced_at h (ids_of (filter p m)) ≡ spaced (names_of (filter p m))
names_kept h p [] listed rising = refl
names_kept h p (r ∷ m) listed rising =
    step (p r) (ap spaced_name (listed r.0 r.1 (row_at-first r m r.0 refl))) (names_kept h p m (λ i row e. listed i row (row_at-later r m i row rising e)) rising.1)
  where
    rest : ByIds
    rest = filter p m

    step : (b : Bool) → spaced_at h r.0 ≡ 32 ∷ r.1.name → all_spaced_at h (ids_of rest) ≡ spaced (names_of rest) → all_spaced_at h (ids_of (cond b (r ∷ rest) rest)) ≡ spaced (names_of (cond b (r ∷ rest) rest))
    step true here more = ap₂ (λ (name names : Text). name ++ names) here more
    step false here more = more

-- where there is an id of a hit, there is something to find
pub some_hits : (h : List Entry) (e : Assignments) (ids : List ℕ) → ids ≡ ids_of (hit_rows h e) → 0 < length ids → FindsSome e (live_rows h)
some_hits h e ids is l =
    omega (arith, l, ap length is, length-map (hit_rows h e) (λ r. r.0), length-map (hit_rows h e) (λ r. r.1), ap length (rows_of-filter (λ row. satisfies e row.conj) (live h)))
