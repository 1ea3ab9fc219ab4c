-- The lines of a file, from its front.
use Rattle.std.proofs.Common.{◌≡◌, ◌==◌, ◌<◌, ◌++◌, true, false, ℕ, List, [], ◌∷◌, length, map, refl, ap, ◌∙◌}
use Rattle.std.specs.List.{list_all}
use Rattle.std.proofs.lemmas.List.{nil_from_length}
use Rattle.be_base.specs.Tokens.{is_blank}
use Rattle.be_base.specs.Fronts.{IsAfterBlanks}
use Rattle.be_base.proofs.Lexing.{list_all_head}
use Rattle.be_io.specs.Lines.{has_lf, without_cr, closed_lines, open_line, last_line}
use Rattle.be_io.specs.FileLines.{file_lines, means_nothing}
use Rattle.be_io.specs.Reader.{ClosedLine}
use Rattle.be_io.proofs.LineLemmas.{closed_lines-append, closed_lines-none, open_line-append, open_line-none, last_line-some}

-- a line that an LF closes is the first line
pub file_lines-ClosedLine : (bytes line rest : List ℕ) → ClosedLine bytes line rest → file_lines bytes ≡ without_cr line ∷ file_lines rest
file_lines-ClosedLine bytes line rest closed =
    ap file_lines closed.1
    ∙ ap (λ front. map (λ l. without_cr l) front ++ last_line true (open_line (line ++ 10 ∷ rest))) (closed_lines-append line rest closed.0)
    ∙ ap (λ l. without_cr line ∷ (map (λ l. without_cr l) (closed_lines rest) ++ last_line true l)) (open_line-append line rest)

-- a text without an LF is one line
pub file_lines-open : (bytes : List ℕ) → has_lf bytes ≡ false → 0 < length bytes → file_lines bytes ≡ bytes ∷ []
file_lines-open bytes none some =
    ap (λ front. map (λ l. without_cr l) front ++ last_line true (open_line bytes)) (closed_lines-none bytes none)
    ∙ ap (λ l. last_line true l) (open_line-none bytes none)
    ∙ last_line-some bytes some

means_nothing-blanks : (blanks rest : List ℕ) → list_all is_blank blanks ≡ true → means_nothing (blanks ++ rest) ≡ means_nothing rest
means_nothing-blanks [] rest h = refl
means_nothing-blanks (b ∷ blanks) rest h =
    let k = list_all_head is_blank b blanks h in
    rw k.0 (means_nothing-blanks blanks rest k.1)

means_nothing-after : (line rest : List ℕ) → IsAfterBlanks line rest → means_nothing line ≡ means_nothing rest
means_nothing-after line rest a = ap means_nothing a.parts ∙ means_nothing-blanks a.blanks rest a.are_blank

pub means_nothing-some : (line text : List ℕ) (b : ℕ) (rest : List ℕ) → IsAfterBlanks line text → text ≡ b ∷ rest → (b == 35) ≡ means_nothing line
means_nothing-some line text b rest a is =
    let no_blank : is_blank b ≡ false = rw is at a.first in
    rw (means_nothing-after line text a, is, no_blank) refl

pub means_nothing-none : (line text : List ℕ) → IsAfterBlanks line text → length text ≡ 0 → true ≡ means_nothing line
means_nothing-none line text a none = rw (means_nothing-after line text a, nil_from_length text none) refl
