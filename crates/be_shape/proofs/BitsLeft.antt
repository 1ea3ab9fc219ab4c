-- How often a node's range can still be halved.
use Rattle.std.proofs.Common.{◌≡◌, ℕ, ◌+◌, ◌<ℤ◌, ◌≤◌, true, Option, Some, None, option_map, refl, arith}
use Rattle.std.proofs.lemmas.Int.{ints}
use Rattle.be_base.specs.declared.names.AttrNo.{AttrNo}
use Rattle.be_model.specs.Domains.{Range, width, bits}
use Rattle.be_model.specs.Schemas.{Attributes, range_of}
use Rattle.be_model.specs.Bounds.{bits_of, bits_at}
use Rattle.be_model.proofs.RangeBits.{low_bits, high_bits}
use Rattle.be_shape.specs.Shape.{NodeRange, whole, lower, upper, can_split}

abbrev pub bits_left : NodeRange → ℕ
bits_left None = 0
bits_left (Some r) = bits (width r.1)

-- a part's range has all halvings of its attribute
pub whole_bits : (s : Attributes) (a : AttrNo) → bits_left (whole s a) ≡ bits_at s a
whole_bits s a = by_range (range_of s a)
  where
    by_range : (o : Option Range) → bits_left (option_map (λ r. (a, r)) o) ≡ bits_of o
    by_range None = refl
    by_range (Some r) = refl

-- a half has fewer
pub low_left : (r : NodeRange) → can_split r ≡ true → bits_left (lower r) + 1 ≤ bits_left r
low_left None h = absurd (cc)
low_left (Some r) h = let l : r.1.0 <ℤ r.1.1 = omega (arith, ints) in low_bits r.1 l

pub high_left : (r : NodeRange) → can_split r ≡ true → bits_left (upper r) + 1 ≤ bits_left r
high_left None h = absurd (cc)
high_left (Some r) h = let l : r.1.0 <ℤ r.1.1 = omega (arith, ints) in high_bits r.1 l
