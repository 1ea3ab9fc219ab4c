-- Ranges of attributes, and values inside ranges.
use Rattle.std.proofs.Common.{◌≡◌, ℤ, pos, negsuc, ◌≤ℤ◌, ◌||◌, Bool, true, false, List, [], ◌∷◌, Some, refl, arith}
use Rattle.std.specs.Int.Signed.{le_z}
use Rattle.std.proofs.lemmas.Int.{ints}
use Rattle.be_base.specs.declared.names.AttrNo.{AttrNo}
use Rattle.be_model.specs.Domains.{Range, is_within, is_some_within}
use Rattle.be_model.proofs.Ranges.{within_parts}
use Rattle.be_model.specs.Schemas.{Attributes, IsSchema, range_of}
use Rattle.be_model.proofs.Attributes.{and_both}
use Rattle.be_model.proofs.InSchema.{range_sound}
use Rattle.be_shape.specs.Ranges.{is_bounded, is_rising}

pub le_test : (x y : ℤ) → x ≤ℤ y → le_z x y ≡ true
le_test x y h = by_test (le_z x y) refl
  where
    by_test : (b : Bool) → le_z x y ≡ b → b ≡ true
    by_test true e = refl
    by_test false e = absurd (omega (arith, ints))

-- the range of an attribute can be halved
pub whole_bounded : (s : Attributes) (a : AttrNo) (r : Range) → IsSchema s → range_of s a ≡ Some r → is_bounded (Some (a, r)) ≡ true
whole_bounded s a r f h =
    let k = range_sound s a r f h in and_both (le_z (negsuc 2147483647) r.0) (le_z r.1 (pos 2147483647)) (le_test (negsuc 2147483647) r.0 k.low) (le_test r.1 (pos 2147483647) k.high)

pub whole_rising : (s : Attributes) (a : AttrNo) (r : Range) → IsSchema s → range_of s a ≡ Some r → is_rising (Some (a, r)) ≡ true
whole_rising s a r f h = le_test r.0 r.1 (range_sound s a r f h).rising

-- a range that holds a value isn't empty
pub some_inside : (r : Range) (vs : List ℤ) → is_some_within r vs ≡ true → le_z r.0 r.1 ≡ true
some_inside r [] h = absurd (cc)
some_inside r (v ∷ vs) h = by_test (is_within r v) refl h (some_inside r vs)
  where
    by_test : (b : Bool) → is_within r v ≡ b → (b || is_some_within r vs) ≡ true → (is_some_within r vs ≡ true → le_z r.0 r.1 ≡ true) → le_z r.0 r.1 ≡ true
    by_test true k t rest = let w = within_parts r v k in le_test r.0 r.1 (omega (arith, ints))
    by_test false k t rest = rest t
