-- A file in memory whose reads don't fail.
use Rattle.std.specs.Prelude.{◌≡◌, ℕ, ◌+◌, ◌≤◌, List, [], length}
use Rattle.be_base.specs.declared.limits.TheConstants.{FILE_BYTES}
use Rattle.be_hub.specs.declared.quiet.TheConstants.{PIECE}
use Rattle.be_io.specs.Calls.{no_calls}
use Rattle.be_io.specs.Memory.{MemSourceState}

-- no call of it is to fail, and it gives no more than a file has
pub record IsQuietSource (s : MemSourceState) : Type 0 where
  pub fails : s.calls.fails ≡ []
  pub parts : s.taken + length s.left ≡ length s.whole
  pub few : length s.whole ≤ FILE_BYTES

-- a file that nobody has read
abbrev pub new_file : List ℕ → MemSourceState
new_file bytes = record { whole = bytes; left = bytes; piece = PIECE; taken = 0; calls = no_calls [] }
