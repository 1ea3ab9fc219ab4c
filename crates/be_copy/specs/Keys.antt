-- The number that stands for a name in a register.
use Rattle.std.specs.Prelude.{ℕ, List, length, nat_le, take, if◌then◌else◌}
use Rattle.std.specs.Int.{w64, from_be_bytes}
use Rattle.sha2.specs.Sha256.{sha256}
use Rattle.be_base.specs.Text.{Text}

-- the bytes of a short name itself, and of a longer one the first 8 bytes of its digest
abbrev pub key_bytes : Text → List ℕ
key_bytes name = if nat_le (length name) 8 then name else take 8 (sha256 name)

-- these bytes read as a number, with zeros behind them where they are fewer than 8
unfoldable pub name_key : Text → ℕ
name_key name = from_be_bytes w64 (key_bytes name)
