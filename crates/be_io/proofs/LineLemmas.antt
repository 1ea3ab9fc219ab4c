-- The lines of a text, from its front.
use Rattle.std.proofs.Common.{◌≡◌, ℕ, ◌==◌, ◌<◌, ◌++◌, Bool, true, false, List, [], ◌∷◌, length, map, refl, ap, ◌∙◌, arith, if◌then◌else◌}
use Rattle.std.proofs.lemmas.Bool.{or_parts, or_right}
use Rattle.be_io.specs.Lines.{has_lf, closed_lines, open_line, put_first, last_line, lines, line_of, closed_line}
use Rattle.be_io.specs.Reader.{ClosedLine, OpenLine}
use Rattle.be_io.proofs.LfLemmas.{has_lf-append}

-- a text with an LF behind another one has an LF
has_lf-behind : (line rest : List ℕ) → has_lf (line ++ 10 ∷ rest) ≡ true
has_lf-behind line rest = has_lf-append line (10 ∷ rest) ∙ or_right (has_lf line) true refl

pub closed_lines-append : (line rest : List ℕ) → has_lf line ≡ false → closed_lines (line ++ 10 ∷ rest) ≡ line ∷ closed_lines rest
closed_lines-append [] rest none = refl
closed_lines-append (b ∷ line) rest none =
    ap (λ t. if t then [] ∷ closed_lines (line ++ 10 ∷ rest) else put_first b (closed_lines (line ++ 10 ∷ rest))) (or_parts (b == 10) (has_lf line) none).0 ∙ ap (λ lines. put_first b lines) (closed_lines-append line rest (or_parts (b == 10) (has_lf line) none).1)

pub closed_lines-none : (line : List ℕ) → has_lf line ≡ false → closed_lines line ≡ []
closed_lines-none [] none = refl
closed_lines-none (b ∷ line) none =
    ap (λ t. if t then [] ∷ closed_lines line else put_first b (closed_lines line)) (or_parts (b == 10) (has_lf line) none).0 ∙ ap (λ lines. put_first b lines) (closed_lines-none line (or_parts (b == 10) (has_lf line) none).1)

pub open_line-append : (line rest : List ℕ) → open_line (line ++ 10 ∷ rest) ≡ open_line rest
open_line-append [] rest = refl
open_line-append (b ∷ line) rest =
    ap (λ t. if t then open_line (line ++ 10 ∷ rest) else b ∷ (line ++ 10 ∷ rest)) (has_lf-behind (b ∷ line) rest) ∙ open_line-append line rest

pub open_line-none : (line : List ℕ) → has_lf line ≡ false → open_line line ≡ line
open_line-none [] none = refl
open_line-none (b ∷ line) none = ap (λ t. if t then open_line line else b ∷ line) none

pub last_line-some : (line : List ℕ) → 0 < length line → last_line true line ≡ line ∷ []
last_line-some [] some = absurd (omega arith)
last_line-some (b ∷ line) some = refl

last_line-false : (line : List ℕ) → last_line false line ≡ []
last_line-false [] = refl
last_line-false (b ∷ line) = refl

-- a line that an LF closes is the first line
pub lines-ClosedLine : (limit : ℕ) (ended : Bool) (bytes line rest : List ℕ) → ClosedLine bytes line rest → lines limit ended bytes ≡ closed_line limit line ∷ lines limit ended rest
lines-ClosedLine limit ended bytes line rest closed =
    ap (λ b. lines limit ended b) closed.1 ∙ ap (λ front. map (λ l. closed_line limit l) front ++ map (λ l. line_of limit l) (last_line ended (open_line (line ++ 10 ∷ rest)))) (closed_lines-append line rest closed.0) ∙ ap (λ l. closed_line limit line ∷ map (λ l. closed_line limit l) (closed_lines rest) ++ map (λ l. line_of limit l) (last_line ended l)) (open_line-append line rest)

-- at the end of the input the bytes after the last LF are the last line
pub lines-OpenLine : (limit : ℕ) (bytes line rest : List ℕ) → OpenLine bytes line rest → lines limit true bytes ≡ line_of limit line ∷ []
lines-OpenLine limit bytes line rest last =
    ap (λ b. lines limit true b) last.2 ∙ ap (λ front. map (λ l. closed_line limit l) front ++ map (λ l. line_of limit l) (last_line true (open_line line))) (closed_lines-none line last.0) ∙ ap (λ l. map (λ l. line_of limit l) l) (ap (λ l. last_line true l) (open_line-none line last.0) ∙ last_line-some line last.1)

-- bytes without an LF are no line before the end of the input
pub lines-begun : (limit : ℕ) (begun : List ℕ) → has_lf begun ≡ false → lines limit false begun ≡ []
lines-begun limit begun none =
    ap (λ front. map (λ l. closed_line limit l) front ++ map (λ l. line_of limit l) (last_line false (open_line begun))) (closed_lines-none begun none) ∙ ap (λ l. map (λ l. line_of limit l) l) (last_line-false (open_line begun))
