-- A text with tokens has no LF.
use Rattle.std.proofs.Common.{◌≡◌, ℕ, ◌==◌, ◌||◌, Bool, true, false, cond, List, [], ◌∷◌, Option, Some, None, inl, refl, sym, ap, ◌∙◌, subst}
use Rattle.std.proofs.lemmas.Bool.{eqb-true}
use Rattle.be_base.specs.Text.{Text, is_word_byte}
use Rattle.be_base.specs.Tokens.{Lexeme, word, less, less_or_equal, equal, not_equal, greater_or_equal, greater, open_brace, close_brace, comma, blank, stray, lexeme_of, put_before, lexemes, put_token, tokens_in, tokens}
use Rattle.be_base.proofs.Lexing.{tokens_stray}
use Rattle.be_io.specs.Lines.{has_lf}

put_none : (t : Lexeme) → put_token t None ≡ None
put_none (word w) = refl
put_none less = refl
put_none less_or_equal = refl
put_none equal = refl
put_none not_equal = refl
put_none greater_or_equal = refl
put_none greater = refl
put_none open_brace = refl
put_none close_brace = refl
put_none comma = refl
put_none blank = refl
put_none (stray b) = refl

none_behind : (t : Lexeme) (rest : List Lexeme) → tokens_in rest ≡ None → tokens_in (t ∷ rest) ≡ None
none_behind t rest none = ap (put_token t) none ∙ put_none t

none_of_word : (w : Text) (o : Option (List Lexeme)) → put_token (word w) o ≡ None → o ≡ None
none_of_word w None e = refl
none_of_word w (Some ts) e = absurd cc

none_of_equal : (o : Option (List Lexeme)) → put_token equal o ≡ None → o ≡ None
none_of_equal None e = refl
none_of_equal (Some ts) e = absurd cc

either : (b : Bool) (x y : List Lexeme) → tokens_in x ≡ None → tokens_in y ≡ None → tokens_in (cond b x y) ≡ None
either true x y p q = p
either false x y p q = q

-- what has no tokens has none with a byte before it
put_stays : (b : ℕ) (ls : List Lexeme) → tokens_in ls ≡ None → tokens_in (put_before b ls) ≡ None
put_stays b (word text ∷ rest) none =
    let later : tokens_in rest ≡ None = none_of_word text (tokens_in rest) none in
    either (is_word_byte b) (word (b ∷ text) ∷ rest) (lexeme_of b ∷ word text ∷ rest) (none_behind (word (b ∷ text)) rest later) (none_behind (lexeme_of b) (word text ∷ rest) none)
put_stays b (equal ∷ rest) none =
    let later : tokens_in rest ≡ None = none_of_equal (tokens_in rest) none in
    either (b == 60) (less_or_equal ∷ rest) _ (none_behind less_or_equal rest later)
    (either (b == 62) (greater_or_equal ∷ rest) _ (none_behind greater_or_equal rest later)
    (either (b == 33) (not_equal ∷ rest) _ (none_behind not_equal rest later) (none_behind (lexeme_of b) (equal ∷ rest) none)))
put_stays b ls none = none_behind (lexeme_of b) ls none

lf_alone : (text : Text) → tokens (10 ∷ text) ≡ None
unfolding is_word_byte
lf_alone text = tokens_stray 10 text refl refl (inl refl)

lf_no_tokens : (text : Text) → has_lf text ≡ true → tokens text ≡ None
lf_no_tokens [] has = absurd cc
lf_no_tokens (b ∷ text) has = by_first (lf_no_tokens text) (b == 10) refl has
  where
    by_first : (has_lf text ≡ true → tokens text ≡ None) → (t : Bool) → (b == 10) ≡ t → (t || has_lf text) ≡ true → tokens (b ∷ text) ≡ None
    by_first rest true is has = subst (λ (x : ℕ). tokens (x ∷ text) ≡ None) (sym (eqb-true b 10 is)) (lf_alone text)
    by_first rest false is has = put_stays b (lexemes text) (rest has)

pub clean_by_tokens : (text : Text) (ts : List Lexeme) → tokens text ≡ Some ts → has_lf text ≡ false
clean_by_tokens text ts some = by_lf (has_lf text) refl
  where
    by_lf : (t : Bool) → has_lf text ≡ t → has_lf text ≡ false
    by_lf true has = let none : tokens text ≡ None = lf_no_tokens text has in absurd cc
    by_lf false has = has
