-- Ranges that can be halved in 64 bits.
use Rattle.std.specs.Prelude.{◌≡◌, pos, negsuc, ◌&&◌, Bool, true, int_le, List, Some, None}
use Rattle.be_base.specs.declared.names.AttrNo.{AttrNo}
use Rattle.be_model.specs.declared.paths.Hop.{Hop}
use Rattle.be_model.specs.declared.paths.Hop.TheVariants.{Part, Low, High}
use Rattle.be_model.specs.Schemas.{Attributes}
use Rattle.be_shape.specs.Plain.{Plain}
use Rattle.be_shape.specs.Shape.{NodeRange, known, everywhere, is_placed_at, can_split}

-- the low end isn't below the least number of a domain, nor the high end above the greatest
abbrev pub is_bounded : NodeRange → Bool
is_bounded None = true
is_bounded (Some r) = int_le (negsuc 2147483647) r.1.0 && int_le r.1.1 (pos 2147483647)

-- the range isn't empty
abbrev pub is_rising : NodeRange → Bool
is_rising None = true
is_rising (Some r) = int_le r.1.0 r.1.1

-- the step may be made below a node of this range: only a range of more than one value has halves
abbrev pub may_step : Hop → NodeRange → Bool
may_step (Part a) r = true
may_step Low r = can_split r
may_step High r = can_split r

-- a node stands in a range, in which rows, parts and halves are placed
pub record StandsIn (s : Attributes) (range : NodeRange) (n : Plain) : Type 0 where
  pub used : List AttrNo
  pub placed : everywhere (is_placed_at s) s (known range used) n ≡ true
  pub bounded : is_bounded range ≡ true
  pub rising : is_rising range ≡ true
