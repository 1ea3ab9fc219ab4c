-- The lines of a text of bytes. A line ends before an LF, and one CR directly before the LF isn't part of it.
use Rattle.std.specs.Prelude.{ℕ, ◌==◌, ◌++◌, Bool, List, [], ◌∷◌, length, map, nat_lt, if◌then◌else◌}
use Rattle.std.specs.List.{list_any}
use Rattle.std.specs.Str.Lines.{strip_carriage_return}

pub data TextLine : Type 0 where
  -- the bytes of a line within the limit
  text : List ℕ → TextLine
  -- a line over the limit, and its number of bytes
  long : ℕ → TextLine

-- the bytes without a CR at their end
abbrev pub without_cr : List ℕ → List ℕ
without_cr bytes = strip_carriage_return bytes

-- the line that these bytes are at the end of the input
abbrev pub line_of : ℕ → List ℕ → TextLine
line_of limit bytes = if nat_lt limit (length bytes) then long (length bytes) else text bytes

-- the line that these bytes are before an LF. A CR at their end counts for the limit, and is no part of the line
abbrev pub closed_line : ℕ → List ℕ → TextLine
closed_line limit bytes = if nat_lt limit (length bytes) then long (length bytes) else text (without_cr bytes)

-- the line that these bytes are, at the end of the input or before an LF
abbrev pub read_line : ℕ → Bool → List ℕ → TextLine
read_line limit ended bytes = if ended then line_of limit bytes else closed_line limit bytes

abbrev pub has_lf : List ℕ → Bool
has_lf bytes = list_any (λ b. b == 10) bytes

abbrev pub put_first : ℕ → List (List ℕ) → List (List ℕ)
put_first b [] = []
put_first b (line ∷ lines) = (b ∷ line) ∷ lines

-- what stands before each LF
abbrev pub closed_lines : List ℕ → List (List ℕ)
closed_lines [] = []
closed_lines (b ∷ bytes) = if b == 10 then [] ∷ closed_lines bytes else put_first b (closed_lines bytes)

-- what follows the last LF
abbrev pub open_line : List ℕ → List ℕ
open_line [] = []
open_line (b ∷ bytes) = if has_lf (b ∷ bytes) then open_line bytes else b ∷ bytes

abbrev pub last_line : Bool → List ℕ → List (List ℕ)
last_line ended [] = []
last_line ended (b ∷ bytes) = if ended then (b ∷ bytes) ∷ [] else []

-- the lines of these bytes. What follows the last LF is a line only at the end of the input, and where it isn't empty
abbrev pub lines : ℕ → Bool → List ℕ → List TextLine
lines limit ended bytes =
    map (closed_line limit) (closed_lines bytes) ++ map (line_of limit) (last_line ended (open_line bytes))
