-- The token that a text begins with, the longest that stands there.
use Rattle.std.specs.Prelude.{◌≡◌, ℕ, ◌==◌, ◌||◌, ◌&&◌, ◌++◌, Bool, true, false, [], ◌∷◌, codes, Some, None, option_map}
use Rattle.std.specs.List.{list_any}
use Rattle.be_base.specs.Text.{Text, IsWord, is_word_byte}
use Rattle.be_base.specs.Fronts.{starts_with, is_equal}
use Rattle.be_base.specs.Tokens.{Lexeme, word, less, less_or_equal, equal, not_equal, greater_or_equal, greater, open_brace, close_brace, comma, blank, stray, is_blank, tokens}

-- the text is this token and the rest, and no longer token stands at its front
abbrev pub IsFirstToken : Lexeme → Text → Text → Type 0
IsFirstToken (word w) text rest = IsWord w × (text ≡ w ++ rest) × (starts_with is_word_byte rest ≡ false)
IsFirstToken less_or_equal text rest = text ≡ codes "<=" ++ rest
IsFirstToken greater_or_equal text rest = text ≡ codes ">=" ++ rest
IsFirstToken not_equal text rest = text ≡ codes "!=" ++ rest
IsFirstToken less text rest = (text ≡ codes "<" ++ rest) × (starts_with is_equal rest ≡ false)
IsFirstToken greater text rest = (text ≡ codes ">" ++ rest) × (starts_with is_equal rest ≡ false)
IsFirstToken equal text rest = text ≡ codes "=" ++ rest
IsFirstToken open_brace text rest = text ≡ codes "{" ++ rest
IsFirstToken close_brace text rest = text ≡ codes "}" ++ rest
IsFirstToken comma text rest = text ≡ codes "," ++ rest
IsFirstToken blank text rest = ⊥
IsFirstToken (stray b) text rest = ⊥

-- the first byte of an operator or a mark, where that doesn't depend on the next byte
abbrev pub is_mark : ℕ → Bool
is_mark b = list_any (λ mark. b == mark) (codes "<>={},")

-- whether a token begins with this byte, which stands before these
abbrev pub begins_token : ℕ → Text → Bool
begins_token b rest = is_word_byte b || is_mark b || (b == 33 && starts_with is_equal rest)

-- the first byte is no blank and begins no token
abbrev pub BeginsNoToken : Text → Type 0
BeginsNoToken [] = ⊥
BeginsNoToken (b ∷ rest) = (is_blank b ≡ false) × (begins_token b rest ≡ false)

-- tokens are found from the left, the longest first. The fields take each text by what it begins with
pub record AreFromTheLeft : Type 0 where
  pub none : tokens [] ≡ Some []
  -- a blank means nothing
  pub blanks : (b : ℕ) (rest : Text) → is_blank b ≡ true → tokens (b ∷ rest) ≡ tokens rest
  -- the longest token comes first, and then those of the rest
  pub longest : (token : Lexeme) (text rest : Text) → IsFirstToken token text rest
      → tokens text ≡ option_map (λ later. token ∷ later) (tokens rest)
  -- there is one where the first byte begins a token
  pub some : (b : ℕ) (rest : Text) → begins_token b rest ≡ true
      → (token : Lexeme) × (after : Text) × IsFirstToken token (b ∷ rest) after
  -- and else the text has no tokens
  pub strays : (text : Text) → BeginsNoToken text → tokens text ≡ None
