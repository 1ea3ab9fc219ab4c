-- What a text begins with, after blanks and at its front.
use Rattle.std.proofs.Common.{◌≡◌, ◌≢◌, ℕ, ◌==◌, ◌||◌, ◌&&◌, Bool, true, false, inl, inr, ◌⊎◌, List, [], ◌∷◌, ◌++◌, length, Option, Some, None, refl, sym, ap, ◌∙◌, arith, append_assoc, length-append}
use Rattle.std.specs.Prelude.{option_map}
use Rattle.std.specs.List.{list_all}
use Rattle.std.proofs.lemmas.Bool.{and_from, and_left, and_cases, and_parts, or_from, or_parts, or_cases, eqb-true, ne_eqb}
use Rattle.std.proofs.lemmas.Bool.Decides.{nat_tests}
use Rattle.std.proofs.lemmas.List.Folds.{list_all-append}
use Rattle.be_base.specs.Text.{Text, IsWord, is_word_byte}
use Rattle.be_base.specs.Fronts.{is_equal, starts_with, IsAfterBlanks}
use Rattle.be_base.specs.FirstTokens.{IsFirstToken, is_mark, begins_token, BeginsNoToken, AreFromTheLeft}
use Rattle.be_base.specs.Tokens.{Lexeme, word, less, less_or_equal, equal, not_equal, greater_or_equal, greater, open_brace, close_brace, comma, blank, stray, is_blank, lexeme_of, put_token, tokens}
use Rattle.be_base.specs.Scans.{Scans, StraysAfterBlanks}
use Rattle.be_base.specs.declared.tokens.Scan.{Scan}
use Rattle.be_base.specs.declared.tokens.Scan.TheVariants.{Found, End, Stray}
use Rattle.be_base.proofs.Lexing.{is_paired, tokens_alone, tokens_blank, tokens_blanks, tokens_stray, tokens_less_or_equal, tokens_greater_or_equal, tokens_not_equal}
use Rattle.be_base.proofs.Joined.{tokens_word_then}

-- a text that begins with no blank is its own rest after blanks
pub IsAfterBlanks-same : (text : Text) → starts_with is_blank text ≡ false → IsAfterBlanks text text
IsAfterBlanks-same text first = record { blanks = []; are_blank = refl; parts = refl; first = first }

IsAfterBlanks-join : (text middle rest : Text) → IsAfterBlanks text middle → IsAfterBlanks middle rest → IsAfterBlanks text rest
IsAfterBlanks-join text middle rest a b = record {
  blanks = a.blanks ++ b.blanks;
  are_blank = list_all-append is_blank a.blanks b.blanks ∙ and_from (list_all is_blank a.blanks) (list_all is_blank b.blanks) a.are_blank b.are_blank;
  parts = a.parts ∙ ap (λ r. a.blanks ++ r) b.parts ∙ sym (append_assoc a.blanks b.blanks rest);
  first = b.first;
}

tokens-IsAfterBlanks : (text rest : Text) → IsAfterBlanks text rest → tokens text ≡ tokens rest
tokens-IsAfterBlanks text rest a = ap tokens a.parts ∙ tokens_blanks a.blanks rest a.are_blank

-- a scan begins after the blanks
pub Scans-IsAfterBlanks : (text rest : Text) (scan : Scan) → IsAfterBlanks text rest → Scans rest scan → Scans text scan
Scans-IsAfterBlanks text rest (Found token later) a s =
    (tokens-IsAfterBlanks text rest a ∙ s.0, omega (arith, s.1, ap length a.parts, length-append a.blanks rest))
Scans-IsAfterBlanks text rest End a s = tokens-IsAfterBlanks text rest a ∙ s
Scans-IsAfterBlanks text rest Stray a s =
    (tokens-IsAfterBlanks text rest a ∙ s.0, (s.1.0, IsAfterBlanks-join text rest s.1.0 a s.1.1, s.1.2))

-- a byte that is none of these begins no operator and no mark
pub no_mark : (b : ℕ) → b ≢ 60 → b ≢ 62 → b ≢ 61 → b ≢ 123 → b ≢ 125 → b ≢ 44 → is_mark b ≡ false
no_mark b no_less no_greater no_equal no_open no_close no_comma = grind (arith, nat_tests)

stray_lexeme : (b : ℕ) → is_word_byte b ≡ false → is_blank b ≡ false → is_mark b ≡ false → lexeme_of b ≡ stray b
stray_lexeme b no_word no_blank none = rw no_word (grind (arith, nat_tests))

unpaired : (b : ℕ) → is_mark b ≡ false → (b == 33) ≡ false → is_paired b ≡ false
unpaired b none no_bang = grind (arith, nat_tests)

-- a byte that begins no token
pub tokens-BeginsNoToken : (text : Text) → BeginsNoToken text → tokens text ≡ None
tokens-BeginsNoToken [] h = absurd h
tokens-BeginsNoToken (b ∷ rest) h =
    let outer = or_parts (is_word_byte b || is_mark b) (b == 33 && starts_with is_equal rest) h.1 in
    let inner = or_parts (is_word_byte b) (is_mark b) outer.0 in
    let joins : (is_paired b ≡ false) ⊎ (starts_with is_equal rest ≡ false) =
    elim (and_cases (b == 33) (starts_with is_equal rest) outer.1) [ inl no_bang ↦ inl (unpaired b inner.1 no_bang) | inr no_equal ↦ inr no_equal ] in
    tokens_stray b rest (stray_lexeme b inner.0 h.0 inner.1) inner.0 joins

-- what a scan answers where no token begins
stray_scan : (b : ℕ) (rest : Text) → is_blank b ≡ false → begins_token b rest ≡ false → (tokens (b ∷ rest) ≡ None) × StraysAfterBlanks (b ∷ rest)
stray_scan b rest no_blank none =
    (tokens-BeginsNoToken (b ∷ rest) (no_blank, none), (b ∷ rest, IsAfterBlanks-same (b ∷ rest) no_blank, (no_blank, none)))

-- a byte that is of no word, is no blank and stands for nothing alone
pub no_token : (b : ℕ) (rest : Text) → is_word_byte b ≡ false → is_blank b ≡ false → b ≢ 60 → b ≢ 62 → b ≢ 33 → b ≢ 61 → b ≢ 123 → b ≢ 125 → b ≢ 44
    → (tokens (b ∷ rest) ≡ None) × StraysAfterBlanks (b ∷ rest)
no_token b rest no_word no_blank no_less no_greater no_bang no_equal no_open no_close no_comma =
    stray_scan b rest no_blank (or_from _ _ (or_from _ _ no_word (no_mark b no_less no_greater no_equal no_open no_close no_comma)) (and_left _ _ (ne_eqb b 33 no_bang)))

-- a `!` with no `=` behind it
pub at_bang : (b : ℕ) (rest : Text) → b ≡ 33 → starts_with is_equal rest ≡ false → (tokens (b ∷ rest) ≡ None) × StraysAfterBlanks (b ∷ rest)
unfolding is_word_byte
at_bang b rest is no_equal = rw is (stray_scan 33 rest refl no_equal)

put_first : (put : Option (List Lexeme) → Option (List Lexeme)) (token : Lexeme) → put None ≡ None → ((later : List Lexeme) → put (Some later) ≡ Some (token ∷ later))
    → (o : Option (List Lexeme)) → put o ≡ option_map (λ later. token ∷ later) o
put_first put token none some None = none
put_first put token none some (Some later) = some later

longest : (token : Lexeme) (text rest : Text) → IsFirstToken token text rest → tokens text ≡ option_map (λ later. token ∷ later) (tokens rest)
unfolding is_word_byte
longest (word w) text rest h = ap tokens h.1 ∙ tokens_word_then w rest h.0 h.2 ∙ put_first (put_token (word w)) (word w) refl (λ later. refl) (tokens rest)
longest less_or_equal text rest h = ap tokens h ∙ tokens_less_or_equal rest ∙ put_first (put_token less_or_equal) less_or_equal refl (λ later. refl) (tokens rest)
longest greater_or_equal text rest h = ap tokens h ∙ tokens_greater_or_equal rest ∙ put_first (put_token greater_or_equal) greater_or_equal refl (λ later. refl) (tokens rest)
longest not_equal text rest h = ap tokens h ∙ tokens_not_equal rest ∙ put_first (put_token not_equal) not_equal refl (λ later. refl) (tokens rest)
longest less text rest h = ap tokens h.0 ∙ tokens_alone 60 rest refl (inr h.1) ∙ put_first (put_token less) less refl (λ later. refl) (tokens rest)
longest greater text rest h = ap tokens h.0 ∙ tokens_alone 62 rest refl (inr h.1) ∙ put_first (put_token greater) greater refl (λ later. refl) (tokens rest)
longest equal text rest h = ap tokens h ∙ tokens_alone 61 rest refl (inl refl) ∙ put_first (put_token equal) equal refl (λ later. refl) (tokens rest)
longest open_brace text rest h = ap tokens h ∙ tokens_alone 123 rest refl (inl refl) ∙ put_first (put_token open_brace) open_brace refl (λ later. refl) (tokens rest)
longest close_brace text rest h = ap tokens h ∙ tokens_alone 125 rest refl (inl refl) ∙ put_first (put_token close_brace) close_brace refl (λ later. refl) (tokens rest)
longest comma text rest h = ap tokens h ∙ tokens_alone 44 rest refl (inl refl) ∙ put_first (put_token comma) comma refl (λ later. refl) (tokens rest)
longest blank text rest h = absurd h
longest (stray b) text rest h = absurd h

-- the bytes of a word at the front of a text, as many as stand together
record Front (text : Text) : Type 0 where
  front : Text
  after : Text
  bytes : list_all is_word_byte front ≡ true
  parts : text ≡ front ++ after
  ends : starts_with is_word_byte after ≡ false

word_front : (text : Text) → Front text
word_front [] = record { front = []; after = []; bytes = refl; parts = refl; ends = refl }
word_front (b ∷ text) = by_first (is_word_byte b) refl (word_front text)
  where
    by_first : (t : Bool) → is_word_byte b ≡ t → Front text → Front (b ∷ text)
    by_first true is_word f = record {
      front = b ∷ f.front;
      after = f.after;
      bytes = and_from (is_word_byte b) (list_all is_word_byte f.front) is_word f.bytes;
      parts = ap (λ l. b ∷ l) f.parts;
      ends = f.ends;
    }
    by_first false no_word f = record { front = []; after = b ∷ text; bytes = refl; parts = refl; ends = no_word }

abbrev HasFirstToken : Text → Type 0
HasFirstToken text = (token : Lexeme) × (after : Text) × IsFirstToken token text after

first_word : (b : ℕ) (rest : Text) → is_word_byte b ≡ true → HasFirstToken (b ∷ rest)
first_word b rest is_word =
    let f = word_front rest in
    let is : IsWord (b ∷ f.front) = record { some = omega arith; bytes = and_from (is_word_byte b) (list_all is_word_byte f.front) is_word f.bytes } in
    (word (b ∷ f.front), f.after, (is, ap (λ l. b ∷ l) f.parts, f.ends))

-- an operator that a `=` behind it would make longer
first_paired : (b : ℕ) (long short : Lexeme) (rest : Text) → ((after : Text) → IsFirstToken long (b ∷ 61 ∷ after) after)
    → (starts_with is_equal rest ≡ false → IsFirstToken short (b ∷ rest) rest) → HasFirstToken (b ∷ rest)
first_paired b long short [] joined alone = (short, [], alone refl)
first_paired b long short (c ∷ rest) joined alone = by_next (c == 61) refl
  where
    by_next : (t : Bool) → (c == 61) ≡ t → HasFirstToken (b ∷ c ∷ rest)
    by_next true is =
        let same : c ≡ 61 = eqb-true c 61 is in
        (long, rest, rw same (joined rest))
    by_next false other = (short, c ∷ rest, alone other)

first_less : (rest : Text) → HasFirstToken (60 ∷ rest)
first_less rest = first_paired 60 less_or_equal less rest (λ after. refl) (λ alone. (refl, alone))

first_greater : (rest : Text) → HasFirstToken (62 ∷ rest)
first_greater rest = first_paired 62 greater_or_equal greater rest (λ after. refl) (λ alone. (refl, alone))

first_not_equal : (rest : Text) → starts_with is_equal rest ≡ true → HasFirstToken (33 ∷ rest)
first_not_equal [] h = absurd (cc)
first_not_equal (c ∷ rest) h = let same : c ≡ 61 = eqb-true c 61 h in (not_equal, rest, rw same refl)

at_mark : (b : ℕ) → is_mark b ≡ true → (b ≡ 60) ⊎ ((b ≡ 62) ⊎ ((b ≡ 61) ⊎ ((b ≡ 123) ⊎ ((b ≡ 125) ⊎ (b ≡ 44)))))
at_mark b h = grind (arith, nat_tests)

first_mark : (b : ℕ) (rest : Text) → (b ≡ 60) ⊎ ((b ≡ 62) ⊎ ((b ≡ 61) ⊎ ((b ≡ 123) ⊎ ((b ≡ 125) ⊎ (b ≡ 44))))) → HasFirstToken (b ∷ rest)
first_mark b rest (inl is) = rw is (first_less rest)
first_mark b rest (inr (inl is)) = rw is (first_greater rest)
first_mark b rest (inr (inr (inl is))) = (equal, rest, rw is refl)
first_mark b rest (inr (inr (inr (inl is)))) = (open_brace, rest, rw is refl)
first_mark b rest (inr (inr (inr (inr (inl is))))) = (close_brace, rest, rw is refl)
first_mark b rest (inr (inr (inr (inr (inr is))))) = (comma, rest, rw is refl)

first_token : (b : ℕ) (rest : Text) → begins_token b rest ≡ true → HasFirstToken (b ∷ rest)
first_token b rest h =
    elim (or_cases (is_word_byte b || is_mark b) (b == 33 && starts_with is_equal rest) h) [
      | inl plain ↦ elim (or_cases (is_word_byte b) (is_mark b) plain) [
        | inl is_word ↦ first_word b rest is_word
        | inr is ↦ first_mark b rest (at_mark b is)
      ]
      | inr bang ↦
          let parts = and_parts (b == 33) (starts_with is_equal rest) bang in
          let is : b ≡ 33 = eqb-true b 33 parts.0 in
          rw is (first_not_equal rest parts.1)
    ]

pub from_the_left : AreFromTheLeft
from_the_left = record { none = refl; blanks = tokens_blank; longest = longest; some = first_token; strays = tokens-BeginsNoToken }
