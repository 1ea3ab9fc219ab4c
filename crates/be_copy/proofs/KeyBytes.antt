-- Bytes that are read as a number are the same with zeros behind them.
use Rattle.std.proofs.Common.{◌≡◌, ℕ, zero, suc, ◌≤◌, Bool, true, false, nat_le, List, [], ◌∷◌, ◌++◌, length, take, get_or, slice_index, ◌-◌, ◌+◌, refl, ap, ◌∙◌, if◌then◌else◌}
use Rattle.std.proofs.Math.ListN.{replicate}
use Rattle.std.proofs.lemmas.Bool.{le-leb}
use Rattle.std.specs.Int.{w64, from_be_bytes, byte_worth, sum_through}
use Rattle.sha2.specs.Sha256.{sha256}
use Rattle.be_copy.specs.Keys.{name_key}
use Rattle.be_base.specs.Text.{Text}

zero_at : (k i : ℕ) → get_or {A = ℕ} (replicate k 0) i 0 ≡ 0
zero_at zero i = refl
zero_at (suc k) zero = refl
zero_at (suc k) (suc i) = zero_at k i

behind : (bytes : List ℕ) (k i : ℕ) → get_or (bytes ++ replicate k 0) i 0 ≡ get_or bytes i 0
behind [] k i = zero_at k i
behind (b ∷ bytes) k zero = refl
behind (b ∷ bytes) k (suc i) = behind bytes k i

same_sum : (f g : ℕ → ℕ) (n : ℕ) → ((i : ℕ) → f i ≡ g i) → sum_through f n ≡ sum_through g n
same_sum f g zero each = each 0
same_sum f g (suc n) each = ap (λ a. a + f (suc n)) (same_sum f g n each) ∙ ap (λ b. sum_through g n + b) (each (suc n))

padded_number : (bytes : List ℕ) (k : ℕ) → from_be_bytes w64 (bytes ++ replicate k 0) ≡ from_be_bytes w64 bytes
padded_number bytes k =
    same_sum (λ i. byte_worth (7 - i) (slice_index (bytes ++ replicate k 0) i)) (λ i. byte_worth (7 - i) (slice_index bytes i)) 7
    (λ i. ap (byte_worth (7 - i)) (behind bytes k i))

-- the number of a short name
pub short_number : (name front : Text) → length name ≤ 8 → front ≡ name ++ replicate (8 - length name) 0 → from_be_bytes w64 front ≡ name_key name
unfolding name_key
short_number name front few is = chosen (nat_le (length name) 8) (le-leb (length name) 8 few)
  where
    chosen : (b : Bool) → b ≡ true → from_be_bytes w64 front ≡ from_be_bytes w64 (if b then name else take 8 (sha256 name))
    chosen true e = ap (from_be_bytes w64) is ∙ padded_number name (8 - length name)
    chosen false e = absurd (cc)
