-- The whole lines of two texts together, and what stands behind their last LF.
use Rattle.std.proofs.Common.{◌≡◌, ℕ, ◌==◌, ◌||◌, ◌++◌, Bool, true, false, cond, List, [], ◌∷◌, refl, sym, ap, ◌∙◌}
use Rattle.std.proofs.lemmas.List.{append-nil}
use Rattle.be_io.specs.Lines.{has_lf, closed_lines, open_line, put_first}
use Rattle.be_io.proofs.LfLemmas.{has_lf-append, has_lf-none}
use Rattle.be_io.proofs.LineLemmas.{closed_lines-append, closed_lines-none, open_line-none, open_line-append}

-- a text with an LF has a whole line
some_closed : (a : List ℕ) → has_lf a ≡ true → (line : List ℕ) × (lines : List (List ℕ)) × (closed_lines a ≡ line ∷ lines)
some_closed [] has = absurd cc
some_closed (x ∷ a) has = by_first (some_closed a) (x == 10) refl
  where
    put : (o : List (List ℕ)) → (line : List ℕ) × (lines : List (List ℕ)) × (o ≡ line ∷ lines) → (line : List ℕ) × (lines : List (List ℕ)) × (put_first x o ≡ line ∷ lines)
    put [] p = absurd (let e = p.2 in cc)
    put (line ∷ lines) p = (x ∷ line, lines, refl)

    by_first : (has_lf a ≡ true → (line : List ℕ) × (lines : List (List ℕ)) × (closed_lines a ≡ line ∷ lines)) → (b : Bool) → (x == 10) ≡ b → (line : List ℕ) × (lines : List (List ℕ)) × (closed_lines (x ∷ a) ≡ line ∷ lines)
    by_first rest true is = ([], closed_lines a, ap (λ t. cond t ([] ∷ closed_lines a) (put_first x (closed_lines a))) is)
    by_first rest false is =
        let later : has_lf a ≡ true = sym (ap (λ t. t || has_lf a) is) ∙ has in
        let p = put (closed_lines a) (rest later) in
        (p.0, p.1, ap (λ t. cond t ([] ∷ closed_lines a) (put_first x (closed_lines a))) is ∙ p.2)

put_first-append : (x : ℕ) (front bs : List (List ℕ)) (line : List ℕ) (lines : List (List ℕ)) → front ≡ line ∷ lines → put_first x (front ++ bs) ≡ put_first x front ++ bs
put_first-append x [] bs line lines e = absurd cc
put_first-append x (a ∷ front) bs line lines e = refl

-- the whole lines of the first text, and then those of what it leaves and the second one
pub closed_lines-on : (a b : List ℕ) → closed_lines (a ++ b) ≡ closed_lines a ++ closed_lines (open_line a ++ b)
closed_lines-on [] b = refl
closed_lines-on (x ∷ a) b = by_first (closed_lines-on a b) (x == 10) refl (has_lf a) refl
  where
    by_first : closed_lines (a ++ b) ≡ closed_lines a ++ closed_lines (open_line a ++ b) → (t : Bool) → (x == 10) ≡ t → (u : Bool) → has_lf a ≡ u → closed_lines (x ∷ (a ++ b)) ≡ closed_lines (x ∷ a) ++ closed_lines (open_line (x ∷ a) ++ b)
    by_first rest true is u has =
        rw is (ap (λ (ls : List (List ℕ)). [] ∷ ls) rest)
    by_first rest false is true has =
        let some = some_closed a has in
        rw (is, has) (ap (put_first x) rest ∙ put_first-append x (closed_lines a) (closed_lines (open_line a ++ b)) some.0 some.1 some.2)
    by_first rest false is false has =
        let none : has_lf (x ∷ a) ≡ false = ap (λ t. t || has_lf a) is ∙ has in
        rw (closed_lines-none (x ∷ a) none, open_line-none (x ∷ a) none) refl

pub open_line-on : (a b : List ℕ) → open_line (a ++ b) ≡ open_line (open_line a ++ b)
open_line-on [] b = refl
open_line-on (x ∷ a) b = by_lf (open_line-on a b) (has_lf (x ∷ a)) refl
  where
    by_lf : open_line (a ++ b) ≡ open_line (open_line a ++ b) → (t : Bool) → has_lf (x ∷ a) ≡ t → open_line (x ∷ (a ++ b)) ≡ open_line (open_line (x ∷ a) ++ b)
    by_lf rest true has =
        let more : has_lf (x ∷ (a ++ b)) ≡ true = has_lf-append (x ∷ a) b ∙ ap (λ t. t || has_lf b) has in
        rw (more, has) rest
    by_lf rest false has = rw has refl

-- what stands behind the last LF has none
pub open_line-clean : (a : List ℕ) → has_lf (open_line a) ≡ false
open_line-clean [] = refl
open_line-clean (x ∷ a) = by_lf (open_line-clean a) (has_lf (x ∷ a)) refl
  where
    by_lf : has_lf (open_line a) ≡ false → (t : Bool) → has_lf (x ∷ a) ≡ t → has_lf (open_line (x ∷ a)) ≡ false
    by_lf rest true has = rw has rest
    by_lf rest false has = rw has has

-- bytes without an LF end no line
pub part_closes : (a c : List ℕ) → has_lf c ≡ false → closed_lines (a ++ c) ≡ closed_lines a
part_closes a c none =
    closed_lines-on a c ∙ ap (λ (ls : List (List ℕ)). closed_lines a ++ ls) (closed_lines-none (open_line a ++ c) (has_lf-none (open_line a) c (open_line-clean a) none)) ∙ append-nil (closed_lines a)

pub part_opens : (a c : List ℕ) → has_lf c ≡ false → open_line (a ++ c) ≡ open_line a ++ c
part_opens a c none = open_line-on a c ∙ open_line-none (open_line a ++ c) (has_lf-none (open_line a) c (open_line-clean a) none)

-- an LF ends the line
pub lf_closes : (a : List ℕ) → closed_lines (a ++ 10 ∷ []) ≡ closed_lines a ++ open_line a ∷ []
lf_closes a = closed_lines-on a (10 ∷ []) ∙ ap (λ (ls : List (List ℕ)). closed_lines a ++ ls) (closed_lines-append (open_line a) [] (open_line-clean a))

pub lf_opens : (a : List ℕ) → open_line (a ++ 10 ∷ []) ≡ []
lf_opens a = open_line-on a (10 ∷ []) ∙ open_line-append (open_line a) []
