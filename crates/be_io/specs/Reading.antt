-- A reader within a call.
use Rattle.std.specs.Prelude.{◌≡◌, ℕ, ◌+◌, ◌<◌, ◌≤◌, ◌++◌, false, List, [], length, take, drop, nat_lt, Option, if◌then◌else◌}
use Rattle.be_io.specs.Lines.{has_lf}
use Rattle.be_io.specs.Told.{WhereTold}
use Rattle.be_io.specs.Reader.{ReaderState, ClosedLine}
use Rattle.be_io.specs.declared.lines.Line.{Line}
use Rattle.be_io.specs.declared.lines.Line.TheVariants.{Text, Long}

-- the first LF of these bytes stands at this place
abbrev pub IsFirstLf : List ℕ → ℕ → Type 0
IsFirstLf bytes at = (at < length bytes) × ClosedLine bytes (take at bytes) (drop (at + 1) bytes)

-- a line of so many bytes as an answer
abbrev pub answer_of : ℕ → ℕ → Line
answer_of limit len = if nat_lt limit len then Long len else Text

-- what the reader shows of a line of so many bytes that ends in these
abbrev pub shown : ℕ → ℕ → List ℕ → List ℕ
shown limit len bytes = if nat_lt limit len then [] else bytes

-- within a call that began with this old reader
pub record IsReading (old new : ReaderState) (before after : Option (List ℕ)) (skipped scanned : ℕ) : Type 0 where
  -- what was taken in this call
  pub given : List ℕ
  -- what was passed over
  pub begun : List ℕ
  pub same : new ≡ record old { unread = new.unread; text = []; taken = old.taken + length given }
  pub parts : old.unread ++ given ≡ begun ++ new.unread
  pub told : WhereTold before after (λ left rest. left ≡ given ++ rest)
  pub skipped_is : length begun ≡ skipped
  pub passed : has_lf begun ≡ false
  -- what is passed over is of a line over the limit
  pub long : skipped ≤ new.limit → skipped ≡ 0
  pub within : scanned ≤ length new.unread
  pub clean : has_lf (take scanned new.unread) ≡ false
