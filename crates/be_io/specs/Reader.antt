-- A reader of lines, and what it answers.
use Rattle.std.specs.Prelude.{◌≡◌, ℕ, ◌+◌, ◌<◌, ◌≤◌, ◌++◌, ◌⊎◌, Bool, true, false, List, [], ◌∷◌, length, Option, Some}
use Rattle.be_io.specs.Lines.{has_lf, without_cr}
use Rattle.be_io.specs.Told.{WhereTold}
use Rattle.be_io.specs.declared.faults.LineFault.{LineFault}
use Rattle.be_io.specs.declared.lines.Line.{Line}
use Rattle.be_io.specs.declared.lines.Line.TheVariants.{Text, Long, End}

pub record ReaderState : Type 0 where
  pub limit : ℕ
  -- the bytes that were taken from the source, and stand in no line yet
  pub unread : List ℕ
  -- the last line, where it was a text
  pub text : List ℕ
  -- how many bytes were taken from sources
  pub taken : ℕ
  -- a source answered that it is at its end
  pub ended : Bool
  -- the fault that every further call answers
  pub stopped : Option LineFault

-- these bytes begin with the line, closed by an LF, and the rest
abbrev pub ClosedLine : List ℕ → List ℕ → List ℕ → Type 0
ClosedLine bytes line rest = (has_lf line ≡ false) × (bytes ≡ line ++ 10 ∷ rest)

-- the line is all of these bytes, at the end of the input
abbrev pub OpenLine : List ℕ → List ℕ → List ℕ → Type 0
OpenLine bytes line rest = (has_lf line ≡ false) × (0 < length line) × (bytes ≡ line) × (rest ≡ [])

-- the next line of these bytes, after which the rest is left; whether it was the last
abbrev pub NextLine : Bool → List ℕ → List ℕ → List ℕ → Type 0
NextLine ended bytes line rest =
    ((ended ≡ false) × ClosedLine bytes line rest) ⊎ ((ended ≡ true) × OpenLine bytes line rest)

-- the text of a line, at the end of the input or before an LF
abbrev pub text_of : Bool → List ℕ → List ℕ
text_of true line = line
text_of false line = without_cr line

-- what the reader answers, where bytes are all that it and its source had left, and rest is what they have left now
abbrev pub GivesLine : ReaderState → Line → List ℕ → List ℕ → Type 0
GivesLine new Text bytes rest =
    (line : List ℕ) × (length line ≤ new.limit) × (new.text ≡ text_of new.ended line) × NextLine new.ended bytes line rest
GivesLine new (Long len) bytes rest =
    (line : List ℕ) × (length line ≡ len) × (new.limit < len) × NextLine new.ended bytes line rest
GivesLine new End bytes rest = (new.ended ≡ true) × (bytes ≡ []) × (rest ≡ [])

-- what was taken since the last line has no LF in it, where the source has `left` left now
abbrev pub BreaksOff : List ℕ → List ℕ → Type 0
BreaksOff bytes left = (begun : List ℕ) × (has_lf begun ≡ false) × (bytes ≡ begun ++ left)

-- what is known of an answer also where the source doesn't tell what it has left
abbrev pub FitsLine : ReaderState → Line → Type 0
FitsLine new Text =
    (length new.text ≤ new.limit) × (has_lf new.text ≡ false) × (new.ended ≡ true → 0 < length new.text)
FitsLine new (Long len) = (new.limit < len) × (new.text ≡ [])
FitsLine new End = (new.ended ≡ true) × (new.text ≡ [])

-- a line that is answered uses up a byte, at least, of what was unread or taken
abbrev pub MovesOn : ReaderState → ReaderState → Line → Type 0
MovesOn old new Text = length new.unread + old.taken < length old.unread + new.taken
MovesOn old new (Long len) = length new.unread + old.taken < length old.unread + new.taken
MovesOn old new End = Unit {0}

-- the next line of all that is left, where the source tells what it has left before and after
abbrev pub GivesNext : List ℕ → ReaderState → Line → Option (List ℕ) → Option (List ℕ) → Type 0
GivesNext unread new line before after =
    WhereTold before after (λ left rest. GivesLine new line (unread ++ left) (new.unread ++ rest))

-- the reader stopped with this fault. What was taken before and isn't in a line yet has no LF
abbrev pub Stops : List ℕ → ReaderState → LineFault → Option (List ℕ) → Option (List ℕ) → Type 0
Stops unread new fault before after =
    (new.stopped ≡ Some fault) × (new.text ≡ []) × (new.ended ≡ false)
    × WhereTold before after (λ left rest. BreaksOff (unread ++ left) rest)
