-- Which lines were read of what a source had left.
use Rattle.std.specs.Prelude.{◌≡◌, ℕ, ◌+◌, ◌≤◌, ◌++◌, true, false, List, [], length, Option}
use Rattle.be_base.specs.Lists.{BeginsWith}
use Rattle.be_base.specs.declared.limits.TheConstants.{LINE_BYTES, READ_BYTES}
use Rattle.be_io.specs.Told.{WhereTold}
use Rattle.be_io.specs.Lines.{TextLine, lines}

-- at most so many bytes are read beyond the lines that were answered: a line, and one read
abbrev pub read_ahead : ℕ
read_ahead = LINE_BYTES + READ_BYTES

-- these are the first lines of what the source had left, and no more was read than them and what a reader keeps
pub record AreFirstLines (before after : List ℕ) (ls : List TextLine) : Type 0 where
  pub front : List ℕ
  pub ahead : List ℕ
  pub parts : before ≡ front ++ (ahead ++ after)
  pub few : length ahead ≤ read_ahead
  pub are_lines : ls ≡ lines LINE_BYTES true front
  pub first : BeginsWith (lines LINE_BYTES true before) ls

abbrev pub ReadFirstLines : Option (List ℕ) → Option (List ℕ) → List TextLine → Type 0
ReadFirstLines before after ls = WhereTold before after (λ b a. AreFirstLines b a ls)

-- the source was read to its end, and these are the lines of what was read
abbrev pub ReadToEnd : Option (List ℕ) → Option (List ℕ) → List TextLine → Type 0
ReadToEnd before after ls = WhereTold before after (λ b a. (a ≡ []) × (ls ≡ lines LINE_BYTES true b))

-- a part of what the source had left was read, and these are the whole lines of that part
abbrev pub ReadInPart : Option (List ℕ) → Option (List ℕ) → List TextLine → Type 0
ReadInPart before after ls =
    WhereTold before after (λ b a. (taken : List ℕ) × (b ≡ taken ++ a) × (ls ≡ lines LINE_BYTES false taken))
