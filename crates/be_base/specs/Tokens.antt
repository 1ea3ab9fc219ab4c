-- A text as tokens: words, operators and marks, the longest ones from left to right. The list is built from the right, a byte
-- at a time; specs/FirstTokens says the same from the left, by what a text begins with.
use Rattle.std.specs.Prelude.{ℕ, ◌==◌, ◌||◌, Bool, List, [], ◌∷◌, Option, Some, None, if◌then◌else◌}
use Rattle.be_base.specs.Text.{Text, is_word_byte}

pub data Lexeme : Type 0 where
  word : Text → Lexeme
  less : Lexeme
  less_or_equal : Lexeme
  equal : Lexeme
  not_equal : Lexeme
  greater_or_equal : Lexeme
  greater : Lexeme
  open_brace : Lexeme
  close_brace : Lexeme
  comma : Lexeme
  -- space or tab: it separates tokens and means nothing else
  blank : Lexeme
  -- a byte that no token has
  stray : ℕ → Lexeme

-- space or tab
abbrev pub is_blank : ℕ → Bool
is_blank b = b == 32 || b == 9

-- a byte alone
abbrev pub lexeme_of : ℕ → Lexeme
lexeme_of b =
    if is_word_byte b then word (b ∷ []) else
    (if b == 60 then less else
    (if b == 61 then equal else
    (if b == 62 then greater else
    (if b == 123 then open_brace else
    (if b == 125 then close_brace else
    (if b == 44 then comma else
    (if is_blank b then blank else stray b)))))))

-- a byte before what follows it: it joins a word that begins there, or the `=` there
abbrev pub put_before : ℕ → List Lexeme → List Lexeme
put_before b (word text ∷ rest) = if is_word_byte b then word (b ∷ text) ∷ rest else lexeme_of b ∷ word text ∷ rest
put_before b (equal ∷ rest) =
    if b == 60 then less_or_equal ∷ rest else
    (if b == 62 then greater_or_equal ∷ rest else
    (if b == 33 then not_equal ∷ rest else lexeme_of b ∷ equal ∷ rest))
put_before b rest = lexeme_of b ∷ rest

abbrev pub lexemes : Text → List Lexeme
lexemes [] = []
lexemes (b ∷ text) = put_before b (lexemes text)

abbrev pub put_token : Lexeme → Option (List Lexeme) → Option (List Lexeme)
put_token blank rest = rest
put_token (stray b) rest = None
put_token t None = None
put_token t (Some ts) = Some (t ∷ ts)

abbrev pub tokens_in : List Lexeme → Option (List Lexeme)
tokens_in [] = Some []
tokens_in (t ∷ ts) = put_token t (tokens_in ts)

-- the tokens of a text, where each of its bytes is of a token or a blank
abbrev pub tokens : Text → Option (List Lexeme)
tokens text = tokens_in (lexemes text)
