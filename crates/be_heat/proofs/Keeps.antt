-- Each step of counted words keeps the rule.
use Rattle.std.proofs.Common.{◌≡◌, ◌⊎◌, inl, inr, ⊎_elim, ℕ, zero, suc, ◌+◌, ◌-◌, ◌*◌, ◌%◌, ◌^◌, ◌≤◌, ◌<◌, List, [], ◌∷◌, length, replicate, sym, refl, ap, ◌∙◌, subst, arith, length-set}
use mathlib.Core.Option.{none}
use Rattle.atomic_table.specs.Table.{Me, step, keeps, stepped, Allows, Splits, Joins, Final, Seen}
use Rattle.atomic_table.proofs.Lists.{set_else}
use Rattle.be_base.specs.declared.limits.TheConstants.{SEATS}
use Rattle.be_shared_sums.specs.Tallied.{Tallied}
use Rattle.be_shared_sums.proofs.Tallies.{total_within, keeps_step, keeps_split, keeps_join, whole}
use Rattle.be_heat.specs.declared.limits.TheConstants.{SEAT_ADDS}
use Rattle.be_heat.specs.declared.rule.Size.{Size}
use Rattle.be_heat.specs.Seats.{at_word, one_more}
use Rattle.be_heat.specs.Counted.{HandState, hand, FitsHand, Counted, HasAdded, one_less, one_share, added, both}

pub at_added : (xs ys : List ℕ) (word : ℕ) → at_word (added xs ys) word ≡ at_word xs word + at_word ys word
at_added [] ys word = omega arith
at_added (x ∷ xs) [] word = omega arith
at_added (x ∷ xs) (y ∷ ys) zero = refl
at_added (x ∷ xs) (y ∷ ys) (suc word) = at_added xs ys word

pub at_zeros : (words word : ℕ) → at_word (replicate words 0) word ≡ 0
at_zeros zero word = refl
at_zeros (suc words) zero = refl
at_zeros (suc words) (suc word) = at_zeros words word

-- 1 where the places are one, and else 0
abbrev one_at : ℕ → ℕ → ℕ
one_at zero zero = 1
one_at zero (suc k) = 0
one_at (suc i) zero = 0
one_at (suc i) (suc k) = one_at i k

at_raised : (counts : List ℕ) (i k : ℕ) → i < length counts → at_word (one_more counts i) k ≡ at_word counts k + one_at i k
at_raised [] i k h = absurd (omega arith)
at_raised (x ∷ xs) zero zero h = refl
at_raised (x ∷ xs) zero (suc k) h = omega arith
at_raised (x ∷ xs) (suc i) zero h = omega arith
at_raised (x ∷ xs) (suc i) (suc k) h = at_raised xs i k (omega arith)

one_or : (i k : ℕ) → ((k ≡ i) × (one_at i k ≡ 1)) ⊎ (one_at i k ≡ 0)
one_or zero zero = inl (refl, refl)
one_or zero (suc k) = inr refl
one_or (suc i) zero = inr refl
one_or (suc i) (suc k) = ⊎_elim (λ t. inl (ap suc t.0, t.1)) (λ t. inr t) (one_or i k)

module _ (size : Size) where
  abbrev Sums : (ℕ → ℕ) → List HandState → Type 0
  Sums sums views = Tallied (λ (v : HandState). v.share) (λ word v. at_word v.counts word) FitsHand size.seats sums views

  -- each word stays far below its type's end
  few : (word : ℕ) (sums : ℕ → ℕ) (views : List HandState) → Sums sums views → sums word ≤ SEAT_ADDS * size.seats
  few word sums views t = let a = t.summed word in let b = t.shared in
      let c = total_within (λ (v : HandState). at_word v.counts word) (λ v. v.share) SEAT_ADDS views (λ id v here. t.each id v here word) in omega arith

  pub add : (slots id : ℕ) (me : Me (Unit {0}) HandState) (i : ℕ) → size.seats ≤ SEATS → i < size.words → i < length me.0.counts → me.0.share ≡ 1 → at_word me.0.counts i < SEAT_ADDS
      → Allows (Counted size) slots id me i (λ n. (n + 1) % 2 ^ 64) (HasAdded (step slots i 1 0 none) me)
  add slots id me i few_seats there mine share room s r _ here _ =
      let n : ℕ = at_word s.words i in
      let most : n ≤ SEAT_ADDS * size.seats = few i (at_word s.words) s.views r.tallied in
      let next : n + 1 ≡ (n + 1) % 18446744073709551616 = omega arith in
      let w = hand me.0.share (one_more me.0.counts i) in (
        w,
        keeps,
        tt,
        subst (λ m. Counted size (stepped s i m id me.1 w keeps)) next (record {
          long = length-set s.words i (n + 1) ∙ r.long;
          tallied = keeps_step (at_word (one_more s.words i)) id me.0 w r.tallied here refl moved fits;
        }),
        refl,
      )
    where
      moved : (word : ℕ) → at_word (one_more me.0.counts i) word + at_word s.words word ≡ at_word me.0.counts word + at_word (one_more s.words i) word
      moved word = let a = at_raised me.0.counts i word mine in let long = r.long in let b = at_raised s.words i word (omega arith) in omega arith

      fits : (word : ℕ) → at_word (one_more me.0.counts i) word ≤ SEAT_ADDS * me.0.share
      fits word = let a = at_raised me.0.counts i word mine in let e = r.tallied.each id me.0 here word in
          ⊎_elim (λ t. let is = ap (λ j. at_word me.0.counts j) t.0 in let o = t.1 in omega arith) (λ o. omega arith) (one_or i word)

  pub split : (id : ℕ) (v : HandState) → ((word : ℕ) → at_word v.counts word ≡ 0) → 0 < v.share → Splits (Counted size) id v (one_less v) (one_share v)
  split id v empty some_share s r here = record {
    long = r.long;
    tallied = keeps_split id v (one_less v) (one_share v) r.tallied here (omega arith) (λ word. let z = empty word in omega arith)
        (λ word. let z = empty word in omega arith) (λ word. let z = empty word in omega arith);
  }

  pub join : (id : ℕ) (v : HandState) (other : ℕ) (w : HandState) → Joins (Counted size) id v other w (both v w) (hand 0 [])
  join id v other w s r here apart there =
      let mine = r.tallied.each id v here in
      let theirs = r.tallied.each other w (sym (set_else s.views id other (both v w) apart) ∙ there) in record {
        long = r.long;
        tallied = keeps_join id v other w (both v w) (hand 0 []) r.tallied here there (omega arith) (λ word. let a = at_added v.counts w.counts word in omega arith)
            (λ word. let a = at_added v.counts w.counts word in let m = mine word in let t = theirs word in omega arith) (λ word. omega arith);
      }

  -- with every share at home, each word is what all seats have added to it
  pub closed : (id : ℕ) (v : HandState) (words : List ℕ) (xs : List (Unit {0})) → Final (Seen (Counted size) id v) words xs → v.share ≡ size.seats → (word : ℕ) → at_word words word ≡ at_word v.counts word
  closed id v words xs (s, seen, is, _, _) all word =
      sym (ap (λ l. at_word l word) is) ∙ whole id v seen.0.tallied seen.1 all (λ u fits idle k. let g = fits k in omega arith) word

-- one share is handed on, and what is at home has one less
pub handed_on : (seats given : ℕ) (counts : List ℕ) (before after : Me (Unit {0}) HandState) → before ≡ (hand (seats - given) counts, []) → after ≡ (one_less before.0, before.1) → after ≡ (hand (seats - (given + 1)) counts, [])
handed_on seats given counts before after is now =
    let left : seats - given - 1 ≡ seats - (given + 1) = omega arith in
    now ∙ ap (λ (m : Me (Unit {0}) HandState). (one_less m.0, m.1)) is ∙ ap (λ n. (hand n counts, [])) left
