-- What seats have added together, and how the words of a closed heat are read.
use Rattle.std.proofs.Common.{◌≡◌, ◌≢◌, ℕ, zero, suc, ◌+◌, ◌<◌, List, [], ◌∷◌, ◌++◌, map, set, length, replicate, sym, refl, ap, ◌∙◌, subst, arith, get_or-set_same, lt_of_not-le}
use Rattle.std.specs.List.{range_with_len}
use Rattle.std.proofs.lemmas.List.{replicate_more}
use Rattle.std.proofs.lemmas.List.Sums.{sum_by-cons, sum_by_push}
use mathlib.Core.Logic.{dite}
use native.Mathlib.Decide.{ℕ_discrete}
use mathlib.Core.Option.{some, some-injective, some-ne-none}
use lib.ListN.{get_elem?}
use Rattle.be_heat.specs.Seats.{SeatState, at_word, total_of, totals}
use Rattle.be_heat.specs.Counted.{HandState, both}
use Rattle.be_heat.proofs.Keeps.{at_added}

-- one more new seat stands behind those before it
pub seat_more : (n : ℕ) (new seat : SeatState) (before after : List SeatState) → before ≡ replicate n new → seat ≡ new → after ≡ before ++ seat ∷ [] → after ≡ replicate (n + 1) new
seat_more n new seat before after all is pushed = pushed ∙ ap (λ l. l ++ seat ∷ []) all ∙ ap (λ s. replicate n new ++ s ∷ []) is ∙ replicate_more n new

-- one more seat is taken in: what it has moves from the rest to what is at home
pub taken_in : (v w : HandState) (seat : SeatState) (rest later all : List SeatState) → rest ≡ seat ∷ later → w.counts ≡ seat.own → ((word : ℕ) → at_word v.counts word + total_of rest word ≡ total_of all word)
    → (word : ℕ) → at_word (both v w).counts word + total_of later word ≡ total_of all word
taken_in v w seat rest later all is counts h word =
    let a = at_added v.counts w.counts word in let b = ap (λ l. at_word l word) counts in
    let c : total_of rest word ≡ at_word seat.own word + total_of later word = ap (λ l. total_of l word) is ∙ sum_by-cons (λ (s : SeatState). at_word s.own word) seat later in
    let d = h word in
    omega arith

-- the last seat has what it has, and the others the rest
pub last_taken : (v : HandState) (seat : SeatState) (all others : List SeatState) → all ≡ others ++ seat ∷ [] → v.counts ≡ seat.own → (word : ℕ) → at_word v.counts word + total_of others word ≡ total_of all word
last_taken v seat all others is counts word =
    let a : total_of (others ++ seat ∷ []) word ≡ total_of others word + at_word seat.own word = sum_by_push (λ (s : SeatState). at_word s.own word) others seat in
    let b = ap (λ l. total_of l word) is in let c = ap (λ l. at_word l word) counts in
    omega arith

-- no seat has added nothing
pub total_none : (seats : List SeatState) (word : ℕ) → length seats ≡ 0 → total_of seats word ≡ 0
total_none [] word empty = refl
total_none (seat ∷ seats) word empty = absurd (omega arith)

at_set_other : (counts : List ℕ) (i k x : ℕ) → k ≢ i → at_word (set counts i x) k ≡ at_word counts k
at_set_other [] i k x n = refl
at_set_other (y ∷ ys) zero zero x n = absurd (n refl)
at_set_other (y ∷ ys) zero (suc k) x n = refl
at_set_other (y ∷ ys) (suc i) zero x n = refl
at_set_other (y ∷ ys) (suc i) (suc k) x n = at_set_other ys i k x (λ e. n (ap suc e))

at_found : (counts : List ℕ) (k x : ℕ) → get_elem? counts k ≡ some x → at_word counts k ≡ x
at_found [] k x e = absurd (some-ne-none x (sym e))
at_found (y ∷ ys) zero x e = some-injective y x e
at_found (y ∷ ys) (suc k) x e = at_found ys k x e

-- the next word is read too
pub read_next : (found words : List ℕ) (i x : ℕ) → i < length found → get_elem? words i ≡ some x → ((k : ℕ) → k < i → at_word found k ≡ at_word words k) → (k : ℕ) → k < i + 1 → at_word (set found i x) k ≡ at_word words k
read_next found words i x room is h k less =
    dite (ℕ_discrete k i)
    (λ e. subst (λ j. at_word (set found i x) j ≡ at_word words j) (sym e) (get_or-set_same found i x 0 room ∙ sym (at_found words i x is)))
    (λ n. at_set_other found i k x n ∙ h k (lt_of_not-le (λ le. n (omega arith))))

counted_from : (f : ℕ → ℕ) (found : List ℕ) (first : ℕ) → ((k : ℕ) → k < length found → at_word found k ≡ f (first + k)) → found ≡ map f (range_with_len first (length found))
counted_from f [] first h = refl
counted_from f (x ∷ xs) first h =
    let here : first + 0 ≡ first = omega arith in
    let next : (k : ℕ) → first + suc k ≡ first + 1 + k = λ k. omega arith in
    let one : x ≡ f first = h zero (omega arith) ∙ ap f here in
    let others = counted_from f xs (first + 1) (λ k less. h (suc k) (omega arith) ∙ ap f (next k)) in
    λ i. one i ∷ others i

-- a list that has the total of each word
pub are_totals : (seats : List SeatState) (words : ℕ) (found : List ℕ) → length found ≡ words → ((word : ℕ) → word < words → at_word found word ≡ total_of seats word) → found ≡ totals words seats
are_totals seats words found long each =
    let from : (k : ℕ) → k ≡ 0 + k = λ k. omega arith in
    counted_from (total_of seats) found 0 (λ k less. each k (omega (arith, long)) ∙ ap (total_of seats) (from k)) ∙ ap (λ n. map (total_of seats) (range_with_len 0 n)) long
