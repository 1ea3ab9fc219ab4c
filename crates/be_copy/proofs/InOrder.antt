-- Rows that were found, put in the order of their ids.
use Rattle.std.proofs.Common.{◌≡◌, ◌++◌, ℕ, ◌+◌, ◌<◌, List, [], ◌∷◌, length, refl, sym, ap, ◌∙◌, subst, arith}
use Rattle.std.specs.Prelude.{IsPermutation}
use Rattle.std.specs.List.{All, AllPairs}
use Rattle.std.specs.List.Sorted.{IsNonDecreasingBy}
use Rattle.std.proofs.lemmas.List.Elements.{All-cons}
use Rattle.std.proofs.lemmas.List.Kept.{AllPairs-cons}
use Rattle.std.proofs.lemmas.List.Sorted.{IsPermutation-trans, length_permutation}
use Rattle.be_model.specs.declared.changes.Row.{Row}
use Rattle.be_model.specs.Rows.{FoundRows, found as found_rows, id_of, KeepsRoom}
use Rattle.be_model.specs.ByIds.{ByIds, AllAbove, Rising, SayIds, rows_of, PutsEach}
use Rattle.be_model.proofs.Orders.{order_unique}

all_above : (n : ℕ) (m : ByIds) → SayIds m → AllAbove n m → All (λ (row : Row). n < id_of row) (rows_of m)
all_above n [] say above = λ k d l. absurd (omega (arith, l))
all_above n (r ∷ m) say above = All-cons (λ (row : Row). n < id_of row) r.1 (rows_of m) (subst (λ i. n < i) (sym say.0) above.0) (all_above n m say.1 above.1)

rows_rise : (m : ByIds) → Rising m → SayIds m → AllPairs (λ (x y : Row). id_of x < id_of y) (rows_of m)
rows_rise [] rising say = λ i j d l k. absurd (omega (arith, k))
rows_rise (r ∷ m) rising say =
    AllPairs-cons (λ (x y : Row). id_of x < id_of y) r.1 (rows_of m) (subst (λ n. All (λ (row : Row). n < id_of row) (rows_of m)) (sym say.0) (all_above r.0 m say.1 rising.0)) (rows_rise m rising.1 say.1)

-- the rows of a map, put each once behind none, and then in order, are those of the map
pub in_order : (m : ByIds) (before found after : List Row) → Rising m → SayIds m → before ≡ [] → PutsEach (rows_of m) before found → IsPermutation found after → IsNonDecreasingBy id_of after → after ≡ rows_of m
in_order m before found after rising say none puts same ordered =
    let all : puts.found ≡ found = sym (puts.put ∙ ap (λ (rows : List Row). rows ++ puts.found) none) in
    order_unique id_of after (rows_of m) (IsPermutation-trans (rows_of m) found after (subst (IsPermutation (rows_of m)) all puts.exact) same) ordered (rows_rise m rising say)

-- rows that were found after the others were dropped, and then put in order, have no less room
pub room_kept : (before cleared found after : FoundRows) → cleared ≡ found_rows [] (before.spare + length before.rows) → KeepsRoom cleared found → IsPermutation found.rows after.rows → after.spare ≡ found.spare → KeepsRoom before after
room_kept before cleared found after is kept same spare =
    let rows = ap (λ (f : FoundRows). length f.rows) is in
    let room = ap (λ (f : FoundRows). f.spare) is in
    let count = length_permutation found.rows after.rows same in
    let none : length (found_rows [] (before.spare + length before.rows)).rows ≡ 0 = refl in omega (arith, rows, room, count, none, kept, spare)
