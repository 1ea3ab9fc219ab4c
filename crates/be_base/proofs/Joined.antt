-- The tokens of a text that is put together.
use Rattle.std.proofs.Common.{◌≡◌, false, List, [], ◌∷◌, ◌++◌, Some, inl, inr, refl, sym, ap, ◌∙◌, arith}
use Rattle.std.proofs.lemmas.List.{append-nil}
use Rattle.be_base.specs.Text.{Text, IsWord, IsName, is_word_byte}
use Rattle.be_base.specs.Fronts.{starts_with}
use Rattle.be_base.specs.Tokens.{Lexeme, word, less, less_or_equal, equal, not_equal, greater_or_equal, greater, open_brace, close_brace, comma, tokens_in, tokens, put_token}
use Rattle.be_base.proofs.Lexing.{list_all_head, lexemes_word, tokens_alone, tokens_blank, tokens_less_or_equal, tokens_greater_or_equal, tokens_not_equal}

pub IsWord-from_name : (text : Text) → IsName text → IsWord text
IsWord-from_name text h = record { some = h.some; bytes = h.bytes }

-- a word that ends where it stands
pub tokens_word_then : (w rest : Text) → IsWord w → starts_with is_word_byte rest ≡ false → tokens (w ++ rest) ≡ put_token (word w) (tokens rest)
tokens_word_then [] rest h r = absurd (omega (arith, h.some))
tokens_word_then (b ∷ text) rest h r =
    let k = list_all_head is_word_byte b text h.bytes in
    ap tokens_in (lexemes_word b text rest k.0 k.1 r)

-- a word before other tokens
pub word_then : (w rest : Text) (ts : List Lexeme) → IsWord w → starts_with is_word_byte rest ≡ false → tokens rest ≡ Some ts
    → tokens (w ++ rest) ≡ Some (word w ∷ ts)
word_then w rest ts h r e = tokens_word_then w rest h r ∙ ap (put_token (word w)) e

pub word_alone : (w : Text) → IsWord w → tokens w ≡ Some (word w ∷ [])
word_alone w h = ap tokens (sym (append-nil w)) ∙ word_then w [] [] h refl refl

-- a space before other tokens
pub space_then : (rest : Text) (ts : List Lexeme) → tokens rest ≡ Some ts → tokens (32 ∷ rest) ≡ Some ts
space_then rest ts e = tokens_blank 32 rest refl ∙ e

-- a word and a space
pub word_space : (w rest : Text) (ts : List Lexeme) → IsWord w → tokens rest ≡ Some ts → tokens (w ++ 32 ∷ rest) ≡ Some (word w ∷ ts)
unfolding is_word_byte
word_space w rest ts h e = word_then w (32 ∷ rest) ts h refl (space_then rest ts e)

-- `=` before other tokens
pub equal_then : (rest : Text) (ts : List Lexeme) → tokens rest ≡ Some ts → tokens (61 ∷ rest) ≡ Some (equal ∷ ts)
unfolding is_word_byte
equal_then rest ts e = tokens_alone 61 rest refl (inl refl) ∙ ap (put_token equal) e

pub comma_then : (rest : Text) (ts : List Lexeme) → tokens rest ≡ Some ts → tokens (44 ∷ rest) ≡ Some (comma ∷ ts)
unfolding is_word_byte
comma_then rest ts e = tokens_alone 44 rest refl (inl refl) ∙ ap (put_token comma) e

pub open_then : (rest : Text) (ts : List Lexeme) → tokens rest ≡ Some ts → tokens (123 ∷ rest) ≡ Some (open_brace ∷ ts)
unfolding is_word_byte
open_then rest ts e = tokens_alone 123 rest refl (inl refl) ∙ ap (put_token open_brace) e

pub close_then : (rest : Text) (ts : List Lexeme) → tokens rest ≡ Some ts → tokens (125 ∷ rest) ≡ Some (close_brace ∷ ts)
unfolding is_word_byte
close_then rest ts e = tokens_alone 125 rest refl (inl refl) ∙ ap (put_token close_brace) e

-- an operator and a space
pub less_space : (rest : Text) (ts : List Lexeme) → tokens rest ≡ Some ts → tokens (60 ∷ 32 ∷ rest) ≡ Some (less ∷ ts)
unfolding is_word_byte
less_space rest ts e = tokens_alone 60 (32 ∷ rest) refl (inr refl) ∙ ap (put_token less) (space_then rest ts e)

pub less_or_equal_space : (rest : Text) (ts : List Lexeme) → tokens rest ≡ Some ts → tokens (60 ∷ 61 ∷ 32 ∷ rest) ≡ Some (less_or_equal ∷ ts)
less_or_equal_space rest ts e = tokens_less_or_equal (32 ∷ rest) ∙ ap (put_token less_or_equal) (space_then rest ts e)

pub equal_space : (rest : Text) (ts : List Lexeme) → tokens rest ≡ Some ts → tokens (61 ∷ 32 ∷ rest) ≡ Some (equal ∷ ts)
equal_space rest ts e = equal_then (32 ∷ rest) ts (space_then rest ts e)

pub not_equal_space : (rest : Text) (ts : List Lexeme) → tokens rest ≡ Some ts → tokens (33 ∷ 61 ∷ 32 ∷ rest) ≡ Some (not_equal ∷ ts)
not_equal_space rest ts e = tokens_not_equal (32 ∷ rest) ∙ ap (put_token not_equal) (space_then rest ts e)

pub greater_or_equal_space : (rest : Text) (ts : List Lexeme) → tokens rest ≡ Some ts → tokens (62 ∷ 61 ∷ 32 ∷ rest) ≡ Some (greater_or_equal ∷ ts)
greater_or_equal_space rest ts e = tokens_greater_or_equal (32 ∷ rest) ∙ ap (put_token greater_or_equal) (space_then rest ts e)

pub greater_space : (rest : Text) (ts : List Lexeme) → tokens rest ≡ Some ts → tokens (62 ∷ 32 ∷ rest) ≡ Some (greater ∷ ts)
unfolding is_word_byte
greater_space rest ts e = tokens_alone 62 (32 ∷ rest) refl (inr refl) ∙ ap (put_token greater) (space_then rest ts e)
