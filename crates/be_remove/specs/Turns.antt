-- In which order the parts of a node are looked at.
use Rattle.std.specs.Prelude.{ℕ, zero, suc, nat_lt, if◌then◌else◌}

-- the place of a turn: first the likely place, and then the others as they stand
abbrev pub place_at : ℕ → ℕ → ℕ
place_at likely zero = likely
place_at likely (suc turn) = if nat_lt turn likely then turn else suc turn
