-- Bytes that no token has, as LF and CR, stand in no text that has tokens, and in no number.
use Rattle.std.proofs.Common.{◌≡◌, ℕ, zero, suc, ◌+◌, ◌-◌, ◌<◌, ◌/◌, ◌%◌, ◌==◌, ◌||◌, Bool, true, false, ltb, List, [], ◌∷◌, ◌++◌, length, take, get_or, Option, Some, None, inl, refl, ap, ◌∙◌, arith, if◌then◌else◌}
use Rattle.std.specs.Prelude.{decimal}
use Rattle.std.specs.Fmt.{digits, digits_onto, digit_glyph}
use Rattle.std.specs.List.{list_any}
use Rattle.std.proofs.lemmas.Bool.{cond_both, or_parts, or_from, false_from_ne_true}
use Rattle.std.proofs.lemmas.Bool.Decides.{nat_tests}
use Rattle.std.proofs.lemmas.List.Folds.{list_any-append}
use Rattle.be_base.specs.Text.{Text, is_word_byte}
use Rattle.be_base.specs.Tokens.{Lexeme, word, less_or_equal, equal, not_equal, greater_or_equal, blank, stray, lexeme_of, put_before, lexemes, put_token, tokens_in, tokens}
use Rattle.be_base.proofs.Lexing.{is_paired, tokens_stray}
use Rattle.be_io.specs.Lines.{without_cr}

abbrev pub has : ℕ → Text → Bool
has b text = list_any (λ x. x == b) text

pub has-append : (b : ℕ) (xs ys : Text) → has b xs ≡ false → has b ys ≡ false → has b (xs ++ ys) ≡ false
has-append b xs ys x y = list_any-append (λ c. c == b) xs ys ∙ or_from (has b xs) (has b ys) x y

-- no token has this byte
pub record IsStray (b : ℕ) : Type 0 where
  pub alone : lexeme_of b ≡ stray b
  pub word : is_word_byte b ≡ false
  pub paired : is_paired b ≡ false

pub lf_is_stray : IsStray 10
unfolding is_word_byte
lf_is_stray = record { alone = refl; word = refl; paired = refl }

pub cr_is_stray : IsStray 13
unfolding is_word_byte
cr_is_stray = record { alone = refl; word = refl; paired = refl }

none_after : (t : Lexeme) → put_token t None ≡ None
none_after blank = refl
none_after (stray b) = refl
none_after _ = refl

put_none : (t : Lexeme) (o : Option (List Lexeme)) → o ≡ None → put_token t o ≡ None
put_none t o e = ap (put_token t) e ∙ none_after t

word_none : (text : Text) (o : Option (List Lexeme)) → put_token (word text) o ≡ None → o ≡ None
word_none text None e = refl
word_none text (Some ts) e = absurd (cc)

equal_none : (o : Option (List Lexeme)) → put_token equal o ≡ None → o ≡ None
equal_none None e = refl
equal_none (Some ts) e = absurd (cc)

-- a byte in front mends nothing
none_before : (c : ℕ) (ls : List Lexeme) → tokens_in ls ≡ None → tokens_in (put_before c ls) ≡ None
none_before c (word text ∷ rest) e =
    cond_both (is_word_byte c) (word (c ∷ text) ∷ rest) (lexeme_of c ∷ word text ∷ rest) (λ (ls : List Lexeme). tokens_in ls ≡ None)
    (λ _. put_none (word (c ∷ text)) (tokens_in rest) (word_none text (tokens_in rest) e)) (λ _. put_none (lexeme_of c) (tokens_in (word text ∷ rest)) e)
none_before c (equal ∷ rest) e =
    let none = equal_none (tokens_in rest) e in
    let P : List Lexeme → Type 0 = λ ls. tokens_in ls ≡ None in
    cond_both (c == 60) _ _ P (λ _. put_none less_or_equal (tokens_in rest) none) (λ _.
    cond_both (c == 62) _ _ P (λ _. put_none greater_or_equal (tokens_in rest) none) (λ _.
    cond_both (c == 33) _ _ P (λ _. put_none not_equal (tokens_in rest) none) (λ _. put_none (lexeme_of c) (tokens_in (equal ∷ rest)) e)))
none_before c [] e = put_none (lexeme_of c) (tokens_in []) e
none_before c (t ∷ rest) e = put_none (lexeme_of c) (tokens_in (t ∷ rest)) e

stray_first : (b c : ℕ) (text : Text) → IsStray b → (c == b) ≡ true → tokens (c ∷ text) ≡ None
stray_first b c text is e =
    let same : c ≡ b = grind (arith, nat_tests) in
    ap (λ (x : ℕ). tokens (x ∷ text)) same ∙ tokens_stray b text is.alone is.word (inl is.paired)

by_first : (b c : ℕ) (text : Text) (t : Bool) → IsStray b → (c == b) ≡ t → (has b text ≡ true → tokens text ≡ None) → (t || has b text) ≡ true → tokens (c ∷ text) ≡ None
by_first b c text true is e later h = stray_first b c text is e
by_first b c text false is e later h = none_before c (lexemes text) (later h)

has_none : (b : ℕ) (text : Text) → IsStray b → has b text ≡ true → tokens text ≡ None
has_none b [] is h = absurd (cc)
has_none b (c ∷ text) is h = by_first b c text (c == b) is refl (λ k. has_none b text is k) h

-- a text that has tokens hasn't this byte
pub has_not : (b : ℕ) (text : Text) (ts : List Lexeme) → IsStray b → tokens text ≡ Some ts → has b text ≡ false
has_not b text ts is e =
    false_from_ne_true (has b text) (λ h. let none = has_none b text is h in cc)

glyph : (b d : ℕ) → b < 48 → (digit_glyph false d == b) ≡ false
glyph b d h = cond_both (ltb d 10) (48 + d) (87 + d) (λ (g : ℕ). (g == b) ≡ false) (λ _. grind (arith, nat_tests)) (λ _. grind (arith, nat_tests))

digits_without : (k b n : ℕ) (acc : Text) → b < 48 → has b acc ≡ false → has b (digits_onto k 10 false n acc) ≡ false
digits_without zero b n acc h none = none
digits_without (suc k) b n acc h none =
    let more : has b (digit_glyph false (n % 10) ∷ acc) ≡ false = or_from (digit_glyph false (n % 10) == b) (has b acc) (glyph b (n % 10) h) none in
    cond_both (n / 10 == 0) _ _ (λ (text : Text). has b text ≡ false) (λ _. more) (λ _. digits_without k b (n / 10) (digit_glyph false (n % 10) ∷ acc) h more)

-- a number hasn't a byte below the digits
pub decimal_without : (b n : ℕ) → b < 48 → has b (decimal n) ≡ false
unfolding digits
decimal_without b n h = digits_without 64 b n [] h refl

none_at : (xs : Text) (i : ℕ) → has 13 xs ≡ false → (get_or xs i 0 == 13) ≡ false
none_at [] i h = refl
none_at (x ∷ xs) zero h = (or_parts (x == 13) (has 13 xs) h).0
none_at (x ∷ xs) (suc i) h = none_at xs i (or_parts (x == 13) (has 13 xs) h).1

-- a line without a CR loses none
pub without_cr-none : (line : Text) → has 13 line ≡ false → without_cr line ≡ line
without_cr-none line h = ap (λ b. if b then take (length line - 1) line else line) (none_at line (length line - 1) h)
