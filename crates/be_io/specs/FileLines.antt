-- The lines of a file that is read whole.
use Rattle.std.specs.Prelude.{ℕ, ◌==◌, ◌++◌, Bool, true, List, [], ◌∷◌, map, if◌then◌else◌}
use Rattle.be_base.specs.Tokens.{is_blank}
use Rattle.be_io.specs.Lines.{without_cr, closed_lines, open_line, last_line}

-- its lines, of any length. What follows the last LF is a line where it isn't empty
abbrev pub file_lines : List ℕ → List (List ℕ)
file_lines bytes = map (λ line. without_cr line) (closed_lines bytes) ++ last_line true (open_line bytes)

-- an empty or blank line, or one whose first byte after blanks is `#`
abbrev pub means_nothing : List ℕ → Bool
means_nothing [] = true
means_nothing (b ∷ line) = if is_blank b then means_nothing line else b == 35
