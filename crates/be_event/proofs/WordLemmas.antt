-- The words of a line, by its first bytes.
use Rattle.std.proofs.Common.{◌≡◌, ◌≢◌, ℕ, zero, suc, ◌-◌, ◌<◌, ◌≤◌, not, Bool, true, false, [], ◌∷◌, ◌++◌, length, length-append, take, drop, refl, sym, ap, ◌∙◌, arith, length-drop}
use Rattle.std.specs.List.{list_all}
use Rattle.be_base.specs.Text.{Text}
use Rattle.be_base.specs.Tokens.{is_blank}
use Rattle.be_base.specs.Fronts.{starts_with, IsAfterBlanks}
use Rattle.std.proofs.lemmas.Bool.{and_parts}
use Rattle.be_event.specs.SchemaTexts.{words, begins_word}

-- a blank in front changes nothing
words_blank : (b : ℕ) (text : Text) → is_blank b ≡ true → words (b ∷ text) ≡ words text
words_blank b text h = rw h refl

skipped : (blanks rest : Text) → list_all is_blank blanks ≡ true → words (blanks ++ rest) ≡ words rest
skipped [] rest h = refl
skipped (b ∷ blanks) rest h =
    let parts = and_parts (is_blank b) (list_all is_blank blanks) h in
    words_blank b (blanks ++ rest) parts.0 ∙ skipped blanks rest parts.1

-- the words after blanks
pub same_words : (text rest : Text) → IsAfterBlanks text rest → words rest ≡ words text
same_words text rest h = sym (ap words h.parts ∙ skipped h.blanks rest h.are_blank)

pub shorter_after : (text rest : Text) → IsAfterBlanks text rest → length rest ≤ length text
shorter_after text rest h = omega (arith, ap length h.parts, length-append h.blanks rest)

not_blank : (b : Bool) → not b ≡ true → b ≡ false
not_blank true h = absurd (cc)
not_blank false h = refl

-- a word is as long as it can be
pub words_first : (n : ℕ) (text : Text) → n ≢ 0 → n ≤ length text → list_all (λ b. not (is_blank b)) (take n text) ≡ true → begins_word (drop n text) ≡ false
    → words text ≡ take n text ∷ words (drop n text)
words_first zero text some within all rest = absurd (some refl)
words_first (suc n) [] some within all rest = absurd (omega arith)
words_first (suc zero) (b ∷ text) some within all rest =
    let first = not_blank (is_blank b) ((and_parts (not (is_blank b)) true all).0) in rw (first, rest) refl
words_first (suc (suc n)) (b ∷ []) some within all rest = absurd (omega arith)
words_first (suc (suc n)) (b ∷ c ∷ text) some within all rest =
    let first = not_blank (is_blank b) ((and_parts (not (is_blank b)) (list_all (λ d. not (is_blank d)) (c ∷ take n text)) all).0) in
    let more = (and_parts (not (is_blank b)) (list_all (λ d. not (is_blank d)) (c ∷ take n text)) all).1 in
    let second = (and_parts (not (is_blank c)) (list_all (λ d. not (is_blank d)) (take n text)) more).0 in
    rw (first, second, words_first (suc n) (c ∷ text) (omega arith) (omega arith) more rest) refl

word_some : (text : Text) → 0 < length text → starts_with is_blank text ≡ false → begins_word text ≡ true
word_some [] some first = absurd (omega arith)
word_some (b ∷ text) some first = rw first refl

not_none : (n : ℕ) (text : Text) → 0 < length text → starts_with is_blank text ≡ false → begins_word (drop n text) ≡ false → n ≢ 0
not_none zero text some first rest h = let k = word_some text some first in absurd (cc)
not_none (suc n) text some first rest h = absurd (omega arith)

-- what a scan answers at a word that w and r split off
pub word_found : (n : ℕ) (whole text w r : Text) → words text ≡ words whole → length text ≤ length whole → starts_with is_blank text ≡ false → 0 < length text
    → n ≤ length text → list_all (λ b. not (is_blank b)) (take n text) ≡ true → begins_word (drop n text) ≡ false → w ≡ take n text → r ≡ drop n text
    → (words whole ≡ w ∷ words r) × (length r < length whole)
word_found n whole text w r same shorter first some within all rest we re =
    let found = not_none n text some first rest in (
      sym same ∙ words_first n text found within all rest ∙ ap (λ x. x ∷ words (drop n text)) (sym we) ∙ ap (λ x. w ∷ words x) (sym re),
      let e : length r ≡ length text - n = ap length re ∙ length-drop n text in omega arith,
    )

-- blanks alone
pub no_words : (text rest : Text) → IsAfterBlanks text rest → length rest ≡ 0 → words text ≡ []
no_words text [] after h = sym (same_words text [] after)
no_words text (b ∷ rest) after h = absurd (omega arith)
