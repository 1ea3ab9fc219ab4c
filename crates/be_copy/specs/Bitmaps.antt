-- Places of rows, each under a number, by blocks of neighbours.
use Rattle.std.specs.Prelude.{ℕ, ◌/◌, ◌%◌, ◌==◌, ◌&&◌, Bool, false, List, Option, Some, None}
use Rattle.std.specs.Int.{bit_at}
use Rattle.std.specs.Map.{lookup}
use Rattle.be_copy.specs.declared.marks.TheConstants.{BLOCK}

-- whether a place of a block is marked
abbrev pub is_marked : (marks place : ℕ) → Bool
is_marked marks place = bit_at marks place == 1

abbrev pub is_in : Option ℕ → ℕ → Bool
is_in None place = false
is_in (Some marks) place = is_marked marks place

-- whether the place stands under the key
abbrev pub is_noted : List ((ℕ × ℕ) × ℕ) → ℕ → ℕ → Bool
is_noted blocks key place = is_in (lookup (λ (block : ℕ × ℕ). (block.0 == key) && (block.1 == place / BLOCK)) blocks) (place % BLOCK)
