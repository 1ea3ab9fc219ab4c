use Rattle.std.proofs.Common.{◌≡◌, ℕ, ◌<◌, ◌/◌, ◌%◌, ◌^◌, Bool, nat_eq, slice_index_or, bit_and, refl, ap, ◌∙◌}
use Rattle.std.proofs.lemmas.Bool.{agree_below_at}
use Rattle.be_base.specs.Text.{is_word_byte}
use Rattle.be_base.specs.declared.tokens.TheConstants.{WORD_BYTES}
use Rattle.be_base.proofs.tokens.is_word_byte.Goals as goal

-- what is found at this number of the table
abbrev found : ℕ → ℕ → Bool
found at b = nat_eq (bit_and (slice_index_or WORD_BYTES at 0 / 2 ^ (b % 32)) 1) 1

found_right : (b : ℕ) → b < 256 → found (b / 32) b ≡ is_word_byte b
unfolding is_word_byte
found_right b byte = agree_below_at (λ n. found (n / 32) n) is_word_byte 256 b refl byte

pub returns : goal.returns
returns c = ap (λ n. found n c.args.b) c.from.ensures ∙ found_right c.args.b c.ranges.b.fits
