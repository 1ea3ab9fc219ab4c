-- Marks as bits of a number.
use Rattle.std.proofs.Common.{◌≡◌, ℕ, ◌*◌, ◌-◌, ◌%◌, ◌^◌, ◌<◌, ◌≤◌, ◌==◌, ◌||◌, Bool, true, false, cond, bit_and, bit_or, w32, nat_lt, refl, sym, ap, ◌∙◌, arith}
use Rattle.std.specs.Int.{bit_at, bit_not, trailing_zeros}
use Rattle.std.proofs.lemmas.Bool.{eqb-true, eqb-false, ltb-true, ltb-false}
use Rattle.std.proofs.lemmas.Nat.{one_shl}
use Rattle.std.proofs.lemmas.Nat.Bits.{bit_at-zero, bit_at_and, bit_at-pow_same, bit_at-pow_other, bit_at_set_same, bit_at_set_other, bit_at_clear_same, bit_at_clear_other, bit_at-trailing_zeros, bit_at_mask_inside, bit_at_mask_below, bit_at-lt, ones_shl}
use Rattle.be_copy.specs.Bitmaps.{is_marked}

abbrev bit : ℕ → ℕ
bit k = 1 * 2 ^ k % 2 ^ 32

-- one mark
pub one_mark : (k i : ℕ) → k < 32 → is_marked (bit k) i ≡ (k == i)
one_mark k i h = step (k == i) refl
  where
    step : (b : Bool) → (k == i) ≡ b → is_marked (bit k) i ≡ b
    step true e = ap (λ (n : ℕ). bit_at n i == 1) (one_shl k 32 h) ∙ (ap (λ (j : ℕ). bit_at (2 ^ k) j == 1) (sym (eqb-true k i e)) ∙ ap (λ (n : ℕ). n == 1) (bit_at-pow_same k))
    step false e = ap (λ (n : ℕ). bit_at n i == 1) (one_shl k 32 h) ∙ ap (λ (n : ℕ). n == 1) (bit_at-pow_other k i (λ q. eqb-false k i e (sym q)))

-- a mark more
pub marked_more : (n k i : ℕ) → k < 32 → is_marked (bit_or n (bit k)) i ≡ (k == i || is_marked n i)
marked_more n k i h = step (k == i) refl
  where
    step : (b : Bool) → (k == i) ≡ b → is_marked (bit_or n (bit k)) i ≡ (b || is_marked n i)
    step true e = ap (λ (j : ℕ). is_marked (bit_or n (bit k)) j) (sym (eqb-true k i e)) ∙ ap (λ (x : ℕ). x == 1) (bit_at_set_same w32 n k h)
    step false e = ap (λ (x : ℕ). x == 1) (bit_at_set_other w32 n k h i (λ q. eqb-false k i e (sym q)))

some_marked : (n k : ℕ) → bit_at n k ≡ 1 → 0 < n
some_marked n k e = step (nat_lt 0 n) refl
  where
    step : (b : Bool) → nat_lt 0 n ≡ b → 0 < n
    step true some = ltb-true 0 n some
    step false none =
        let is : n ≡ 0 = omega (arith, ltb-false 0 n none) in
        absurd (omega (arith, e, ap (λ (m : ℕ). bit_at m k) is, bit_at-zero k))

pub more_are_some : (n k : ℕ) → k < 32 → 0 < bit_or n (bit k)
more_are_some n k h = some_marked (bit_or n (bit k)) k (bit_at_set_same w32 n k h)

-- a mark less
pub marked_less : (n k i : ℕ) → k < 32 → i < 32 → is_marked (bit_and n (bit_not w32 (bit k))) i ≡ cond (k == i) false (is_marked n i)
marked_less n k i h l = step (k == i) refl
  where
    step : (b : Bool) → (k == i) ≡ b → is_marked (bit_and n (bit_not w32 (bit k))) i ≡ cond b false (is_marked n i)
    step true e = ap (λ (j : ℕ). is_marked (bit_and n (bit_not w32 (bit k))) j) (sym (eqb-true k i e)) ∙ ap (λ (x : ℕ). x == 1) (bit_at_clear_same w32 n k h)
    step false e = ap (λ (x : ℕ). x == 1) (bit_at_clear_other w32 n k h i l (λ q. eqb-false k i e (sym q)))

pub none_marked : (n i : ℕ) → n ≡ 0 → is_marked n i ≡ false
none_marked n i e = ap (λ (m : ℕ). is_marked m i) e ∙ ap (λ (x : ℕ). x == 1) (bit_at-zero i)

pub none_less : (n k i : ℕ) → k < 32 → i < 32 → bit_and n (bit_not w32 (bit k)) ≡ 0 → cond (k == i) false (is_marked n i) ≡ false
none_less n k i h l e = sym (marked_less n k i h l) ∙ none_marked (bit_and n (bit_not w32 (bit k))) i e

-- the lowest mark
pub record IsLowest (n place : ℕ) : Type 0 where
  pub block : place < 32
  pub marked : is_marked n place ≡ true
  pub first : (i : ℕ) → i < place → is_marked n i ≡ false

pub lowest_mark : (n : ℕ) → 0 < n → n < 2 ^ 32 → IsLowest n (trailing_zeros w32 n)
lowest_mark n some few =
    let at = bit_at-trailing_zeros w32 n some few in record {
      block = at.0;
      marked = ap (λ (x : ℕ). x == 1) at.1;
      first = λ i low. ap (λ (x : ℕ). x == 1) (at.2 i low);
    }

-- the marks from one on
abbrev from_on : (n from : ℕ) → ℕ
from_on n from = bit_and n ((2 ^ 32 - 1) * 2 ^ from % 2 ^ 32)

mask_at : (from i : ℕ) → from < 32 → bit_at ((2 ^ 32 - 1) * 2 ^ from % 2 ^ 32) i ≡ bit_at (2 ^ 32 - 2 ^ from) i
mask_at from i h = ap (λ (m : ℕ). bit_at m i) (ones_shl 32 from (omega arith))

pub marked_from : (n from i : ℕ) → from < 32 → from ≤ i → i < 32 → is_marked (from_on n from) i ≡ is_marked n i
marked_from n from i h low high =
    let same : bit_at (from_on n from) i ≡ bit_at n i = omega (arith, bit_at_and n ((2 ^ 32 - 1) * 2 ^ from % 2 ^ 32) i, mask_at from i h, bit_at_mask_inside from 32 i low high, bit_at-lt n i) in
    ap (λ (x : ℕ). x == 1) same

pub marked_below : (n from i : ℕ) → from < 32 → i < from → is_marked (from_on n from) i ≡ false
marked_below n from i h low =
    let none : bit_at (from_on n from) i ≡ 0 = omega (arith, bit_at_and n ((2 ^ 32 - 1) * 2 ^ from % 2 ^ 32) i, mask_at from i h, bit_at_mask_below from 32 i low) in
    ap (λ (x : ℕ). x == 1) none

-- the first mark from one on
pub record IsNextMark (n from place : ℕ) : Type 0 where
  pub low : from ≤ place
  pub block : place < 32
  pub marked : is_marked n place ≡ true
  pub first : (i : ℕ) → from ≤ i → i < place → is_marked n i ≡ false

pub next_mark : (n from place : ℕ) → from < 32 → place < 32 → is_marked (from_on n from) place ≡ true → ((i : ℕ) → i < place → is_marked (from_on n from) i ≡ false) → IsNextMark n from place
next_mark n from place h block marked first = step (nat_lt place from) refl
  where
    step : (b : Bool) → nat_lt place from ≡ b → IsNextMark n from place
    step true e = let no : is_marked (from_on n from) place ≡ false = marked_below n from place h (ltb-true place from e) in absurd cc
    step false e =
        let low : from ≤ place = ltb-false place from e in record {
          low = low;
          block = block;
          marked = sym (marked_from n from place h low block) ∙ marked;
          first = λ i at less. sym (marked_from n from i h at (omega arith)) ∙ first i less;
        }

pub no_mark : (n from : ℕ) → from < 32 → from_on n from ≡ 0 → (i : ℕ) → from ≤ i → i < 32 → is_marked n i ≡ false
no_mark n from h e i low high = sym (marked_from n from i h low high) ∙ none_marked (from_on n from) i e
