-- A source of bytes, as what it tells.
use Rattle.std.specs.Prelude.{ℕ, List, Option, None}

pub record SourceState : Type 0 where
  -- the bytes that it has left, where it tells them
  pub left : Option (List ℕ)
  -- how many of its calls failed
  pub faults : ℕ
  -- how many bytes it has given
  pub taken : ℕ
  -- all bytes that it gives from first to last, where it tells them
  pub whole : Option (List ℕ)

-- what stands beside a sink that is no link
abbrev pub no_source : SourceState
no_source = record { left = None; faults = 0; taken = 0; whole = None }
