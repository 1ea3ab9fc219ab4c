-- Domains: ranges of whole numbers, and how they are halved.
pub use Rattle.be_base.specs.TextLists.{place_of}
use Rattle.std.specs.Prelude.{ℕ, ℤ, pos, ◌+ℤ◌, ◌-ℤ◌, ◌+◌, ◌-◌, ◌/◌, ◌&&◌, zero, suc, Bool, List, length, nat_le, int_le, int_div, unsigned_abs, Option, Some, None, option_map, if◌then◌else◌}
use Rattle.std.specs.List.{list_any}
use Rattle.be_base.specs.Text.{Text}
use Rattle.be_base.specs.Numbers.{int_of}
use Rattle.be_model.specs.declared.schemas.Domain.{Domain}
use Rattle.be_model.specs.declared.schemas.Domain.TheVariants.{Int, Sym}

-- a low and a high end
abbrev pub Range : Type 0
Range = ℤ × ℤ

-- a symbol's value is its place in the listing, from 0
abbrev pub bounds_of : Domain → Range
bounds_of (Int lo hi) = (lo, hi)
bounds_of (Sym words) = (pos 0, pos (length words - 1))

abbrev pub is_within : Range → ℤ → Bool
is_within r v = int_le r.0 v && int_le v r.1

-- the range holds at least one of the values
abbrev pub is_some_within : Range → List ℤ → Bool
is_some_within r vs = list_any (is_within r) vs

abbrev pub width : Range → ℕ
width r = unsigned_abs ((r.1 -ℤ r.0) +ℤ pos 1)

-- the number that the word is, where it lies in the range
abbrev pub within : Range → Option ℤ → Option ℤ
within r None = None
within r (Some v) = if is_within r v then Some v else None

-- the value of a word in a domain
abbrev pub value_of_word : Domain → Text → Option ℤ
value_of_word (Int lo hi) text = within (lo, hi) (int_of text)
value_of_word (Sym words) text = option_map (λ place. pos place) (place_of text words)

-- the middle of a range
abbrev pub middle : Range → ℤ
middle r = r.0 +ℤ int_div (r.1 -ℤ r.0) (pos 2)

abbrev pub low_half : Range → Range
low_half r = (r.0, middle r)

abbrev pub high_half : Range → Range
high_half r = (middle r +ℤ pos 1, r.1)

-- how often a range of n values is halved, the greater half each time, until one value is left; n is fuel enough
abbrev pub bits_within : ℕ → ℕ → ℕ
bits_within zero n = 0
bits_within (suc fuel) n = if nat_le n 1 then 0 else 1 + bits_within fuel ((n + 1) / 2)

unfoldable pub bits : ℕ → ℕ
bits n = bits_within n n
