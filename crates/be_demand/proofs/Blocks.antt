-- Lines of one reply, behind which others follow.
use Rattle.std.proofs.Common.{◌≡◌, ℕ, ◌<◌, ◌==◌, inl, inr, Bool, true, false, List, [], ◌∷◌, ◌++◌, length, refl, sym, ap, ◌∙◌, arith, append_assoc, length-append}
use Rattle.std.specs.List.{list_all, flat_map}
use Rattle.std.proofs.lemmas.Bool.{and_parts, or_parts, or_right, not-true}
use Rattle.be_base.specs.Text.{Text}
use Rattle.be_io.specs.Lines.{has_lf}
use Rattle.be_io.specs.Reader.{NextLine}
use Rattle.be_io.proofs.LfLemmas.{has_lf-append}
use Rattle.be_protocol.specs.Replies.{with_lf}
use Rattle.be_demand.specs.Texts.{goes_on, is_whole}

-- a text that begins with the lines of a reply, the last of which is this one
pub record IsBlock (bytes : Text) (ls : List Text) (last rest : Text) : Type 0 where
  pub first : list_all goes_on ls ≡ true
  pub ends : goes_on last ≡ false
  pub whole : list_all is_whole ls ≡ true
  pub last_whole : is_whole last ≡ true
  pub text : bytes ≡ flat_map with_lf (ls ++ last ∷ []) ++ rest

-- a text has one first line
one_line : (a b x y : Text) → has_lf a ≡ false → has_lf b ≡ false → a ++ 10 ∷ x ≡ b ++ 10 ∷ y → (a ≡ b) × (x ≡ y)
one_line [] [] x y none none' e = (refl, (cc))
one_line [] (c ∷ b) x y none none' e =
    let same : 10 ≡ c = cc in
    let other = (or_parts (c == 10) (has_lf b) none').0 in
    let is = ap (λ (n : ℕ). n == 10) same in
    absurd (cc)
one_line (c ∷ a) [] x y none none' e =
    let same : c ≡ 10 = cc in
    let other = (or_parts (c == 10) (has_lf a) none).0 in
    let is = ap (λ (n : ℕ). n == 10) same in
    absurd (cc)
one_line (c ∷ a) (d ∷ b) x y none none' e =
    let same : c ≡ d = cc in
    let tails : a ++ 10 ∷ x ≡ b ++ 10 ∷ y = cc in
    let k = one_line a b x y (or_parts (c == 10) (has_lf a) none).1 (or_parts (d == 10) (has_lf b) none').1 tails in
    let lines = k.0 in
    ((cc), k.1)

-- the line that is cut off a text that begins with a line
pub cut_same : (ended : Bool) (bytes line more cut after : Text) → has_lf line ≡ false → bytes ≡ line ++ 10 ∷ more → NextLine ended bytes cut after → (cut ≡ line) × (after ≡ more)
cut_same ended bytes line more cut after none is (inl closed) = one_line cut line after more closed.1.0 none (sym closed.1.1 ∙ is)
cut_same ended bytes line more cut after none is (inr last) =
    let has : has_lf bytes ≡ true = ap has_lf is ∙ (has_lf-append line (10 ∷ more) ∙ or_right (has_lf line) true refl) in
    let hasn't : has_lf bytes ≡ false = ap has_lf last.1.2 ∙ last.1.0 in
    absurd (cc)

-- the text of one line more
line_more : (line : Text) (ls : List Text) (rest : Text) → flat_map with_lf (line ∷ ls) ++ rest ≡ line ++ 10 ∷ (flat_map with_lf ls ++ rest)
line_more line ls rest =
    append_assoc (line ++ 10 ∷ []) (flat_map with_lf ls) rest ∙ append_assoc line (10 ∷ []) (flat_map with_lf ls ++ rest)

whole_line : (line : Text) → is_whole line ≡ true → has_lf line ≡ false
whole_line line h = not-true (has_lf line) h

-- what a line that was cut off leaves
pub record Goes (line after last rest : Text) : Type 0 where
  pub on : goes_on line ≡ true → (ls : List Text) × IsBlock after ls last rest
  pub over : goes_on line ≡ false → (line ≡ last) × (after ≡ rest)

pub block_step : (ended : Bool) (bytes line after : Text) (ls : List Text) (last rest : Text) → IsBlock bytes ls last rest → NextLine ended bytes line after → Goes line after last rest
block_step ended bytes line after [] last rest b cut =
    let k = cut_same ended bytes last rest line after (whole_line last b.last_whole) (b.text ∙ line_more last [] rest) cut in
    let same : goes_on line ≡ false = ap goes_on k.0 ∙ b.ends in
    record { on = λ h. absurd (cc); over = λ h. k }
block_step ended bytes line after (l ∷ ls) last rest b cut =
    let goes = and_parts (goes_on l) (list_all goes_on ls) b.first in
    let whole = and_parts (is_whole l) (list_all is_whole ls) b.whole in
    let k = cut_same ended bytes l (flat_map with_lf (ls ++ last ∷ []) ++ rest) line after (whole_line l whole.0) (b.text ∙ line_more l (ls ++ last ∷ []) rest) cut in
    let same : goes_on line ≡ true = ap goes_on k.0 ∙ goes.0 in
    record {
      on = λ h. (ls, record { first = goes.1; ends = b.ends; whole = whole.1; last_whole = b.last_whole; text = k.1 });
      over = λ h. absurd (cc);
    }
