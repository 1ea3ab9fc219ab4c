-- How often ranges are halved: a half is halved less than its range, and no range of a schema more than 32 times.
use Rattle.std.proofs.Common.{◌≡◌, ◌⊎◌, inl, inr, ⊎_elim, ℕ, pos, negsuc, ◌≤ℤ◌, ◌<ℤ◌, ◌+◌, ◌*◌, ◌/◌, ◌≤◌, zero, suc, Option, Some, None, refl, ap, arith}
use Rattle.std.proofs.lemmas.Int.{ints}
use Rattle.be_base.specs.declared.names.AttrNo.{AttrNo}
use Rattle.be_model.specs.Domains.{Range, width, low_half, high_half, bits}
use Rattle.be_model.specs.Schemas.{Attributes, IsSchema, range_of}
use Rattle.be_model.specs.Bounds.{bits_of, bits_at}
use Rattle.be_model.proofs.Halvings.{bits_small, bits_large}
use Rattle.be_model.proofs.InSchema.{range_sound}
use Rattle.be_model.proofs.Ranges.{halves_split}

one_or_more : (n : ℕ) → (n ≤ 1) ⊎ (2 ≤ n)
one_or_more zero = inl (omega arith)
one_or_more (suc zero) = inl (omega arith)
one_or_more (suc (suc n)) = inr (omega arith)

-- more values aren't halved less often
rising_within : (fuel m n : ℕ) → n ≤ fuel → m ≤ n → bits m ≤ bits n
rising_within zero m n f h = omega (arith, bits_small m (omega arith))
rising_within (suc fuel) m n f h =
    ⊎_elim (λ s. omega (arith, bits_small m s)) (λ s. omega (arith, bits_large m s, bits_large n (omega arith), rising_within fuel ((m + 1) / 2) ((n + 1) / 2) (omega arith) (omega arith))) (one_or_more m)

pub bits_rise : (m n : ℕ) → m ≤ n → bits m ≤ bits n
bits_rise m n h = rising_within n m n (omega arith) h

abbrev doubled : ℕ → ℕ
doubled zero = 1
doubled (suc k) = 2 * doubled k

bits_doubled : (k n : ℕ) → n ≤ doubled k → bits n ≤ k
bits_doubled zero n h = omega (arith, bits_small n h)
bits_doubled (suc k) n h =
    ⊎_elim (λ s. omega (arith, bits_small n s)) (λ s. omega (arith, bits_large n s, bits_doubled k ((n + 1) / 2) (omega arith))) (one_or_more n)

wide : (r : Range) → r.0 <ℤ r.1 → 2 ≤ width r
wide r h = omega (arith, ints)

-- a half is halved at least once less than its range
pub low_bits : (r : Range) → r.0 <ℤ r.1 → bits (width (low_half r)) + 1 ≤ bits (width r)
low_bits r h =
    let a = halves_split r h in omega (arith, bits_large (width r) (wide r h), ap bits a.low_width)

pub high_bits : (r : Range) → r.0 <ℤ r.1 → bits (width (high_half r)) + 1 ≤ bits (width r)
high_bits r h =
    let a = halves_split r h in
    let w = width r in
    omega (arith, bits_large w (wide r h), ap bits a.high_width, bits_rise (w / 2) ((w + 1) / 2) (omega arith))

not_wide : (r : Range) → negsuc 2147483647 ≤ℤ r.0 → r.0 ≤ℤ r.1 → r.1 ≤ℤ pos 2147483647 → width r ≤ 4294967296
not_wide r a b c = omega (arith, ints)

few_bits : (n : ℕ) → n ≤ 4294967296 → bits n ≤ 32
few_bits n h = bits_doubled 32 n h

-- no range of a schema is halved more than 32 times
pub bits_few : (s : Attributes) (a : AttrNo) → IsSchema s → bits_at s a ≤ 32
bits_few s a f = by_range (range_of s a) refl
  where
    by_range : (o : Option Range) → range_of s a ≡ o → bits_of o ≤ 32
    by_range None e = omega arith
    by_range (Some r) e =
        let k = range_sound s a r f e in few_bits (width r) (not_wide r k.low k.rising k.high)
