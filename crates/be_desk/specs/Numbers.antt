-- Two numbers that should agree and don't.
use Rattle.std.specs.Prelude.{ℕ}

-- what was seen or made, and what is published or written
pub record Numbers : Type 0 where
  pub seen : ℕ
  pub written : ℕ

abbrev pub numbers : ℕ → ℕ → Numbers
numbers seen written = record { seen = seen; written = written }
