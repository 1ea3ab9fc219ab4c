-- How often a range is halved.
use Rattle.std.proofs.Common.{◌≡◌, ℕ, ◌+◌, ◌/◌, ◌<◌, ◌≤◌, zero, suc, cond, leb, refl, sym, ap, ◌∙◌, arith, ◌⊎◌, ⊎_elim, inl, inr}
use Rattle.std.proofs.lemmas.Bool.Decides.{nat_tests}
use Rattle.be_model.specs.Domains.{bits, bits_within}

small : (n k : ℕ) → n ≤ 1 → cond (leb n 1) 0 k ≡ 0
small n k h = grind (arith, nat_tests)

large : (n k : ℕ) → 2 ≤ n → cond (leb n 1) 0 k ≡ k
large n k h = grind (arith, nat_tests)

sizes : (n : ℕ) → (n ≤ 1) ⊎ (2 ≤ n)
sizes zero = inl (omega arith)
sizes (suc zero) = inl (omega arith)
sizes (suc (suc n)) = inr (omega arith)

step_same : (n a b : ℕ) → (2 ≤ n → a ≡ b) → cond (leb n 1) 0 (1 + a) ≡ cond (leb n 1) 0 (1 + b)
step_same n a b same =
    ⊎_elim (λ h. small n (1 + a) h ∙ sym (small n (1 + b) h)) (λ h. ap (λ m. cond (leb n 1) 0 (1 + m)) (same h)) (sizes n)

step_small : (f n : ℕ) → n ≤ 1 → bits_within f n ≡ 0
step_small zero n h = refl
step_small (suc f) n h = small n (1 + bits_within f ((n + 1) / 2)) h

-- more fuel than there are values changes nothing
fuel_enough : (f g n : ℕ) → n ≤ suc f → n ≤ suc g → bits_within f n ≡ bits_within g n
fuel_enough zero g n h k = sym (step_small g n h)
fuel_enough (suc f) zero n h k = step_small (suc f) n k
fuel_enough (suc f) (suc g) n h k =
    step_same n (bits_within f ((n + 1) / 2)) (bits_within g ((n + 1) / 2)) (λ s. fuel_enough f g ((n + 1) / 2) (omega arith) (omega arith))

-- one value isn't halved
pub bits_small : (n : ℕ) → n ≤ 1 → bits n ≡ 0
unfolding bits
bits_small n h = step_small n n h

-- the greater half is halved once less
pub bits_large : (n : ℕ) → 2 ≤ n → bits n ≡ 1 + bits ((n + 1) / 2)
unfolding bits
bits_large zero h = absurd (omega arith)
bits_large (suc n) h =
    large (suc n) (1 + bits_within n ((suc n + 1) / 2)) h ∙ ap (λ m. 1 + m) (fuel_enough n ((suc n + 1) / 2) ((suc n + 1) / 2) (omega arith) (omega arith))

below_within : (f n : ℕ) → 0 < n → bits_within f n < n
below_within zero n h = h
below_within (suc f) n h =
    ⊎_elim (λ s. omega (arith, small n (1 + bits_within f ((n + 1) / 2)) s)) (λ s. omega (arith, large n (1 + bits_within f ((n + 1) / 2)) s, below_within f ((n + 1) / 2) (omega arith))) (sizes n)

-- there are fewer halvings than values
pub bits_below : (n : ℕ) → 0 < n → bits n < n
unfolding bits
bits_below n h = below_within n n h
