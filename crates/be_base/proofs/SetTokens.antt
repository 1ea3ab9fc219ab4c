-- The tokens of a set's text.
use Rattle.std.proofs.Common.{◌≡◌, false, List, [], ◌∷◌, ◌++◌, map, All, Some, codes, append_assoc, append-nil, refl, sym, ap, ◌∙◌}
use Rattle.std.specs.List.{join_by}
use Rattle.std.proofs.lemmas.List.Elements.{All-head, All-tail}
use Rattle.be_base.specs.Text.{Text, IsWord, is_word_byte}
use Rattle.be_base.specs.Fronts.{starts_with}
use Rattle.be_base.specs.Tokens.{Lexeme, open_brace, close_brace, comma, tokens}
use Rattle.be_base.specs.Sets.{value_tokens, set_tokens, set_text}
use Rattle.be_base.proofs.Joined.{word_then, comma_then, open_then, close_then}

-- the texts of the values are words
abbrev pub AreWords : {X : Type 0} → (X → Text) → List X → Type 0
AreWords value vs = All (λ v. IsWord (value v)) vs

-- a text whose first byte is of no word
abbrev pub Ends : Text → Type 0
Ends rest = starts_with is_word_byte rest ≡ false

values_lexed : {X : Type 0} (value : X → Text) (v : X) (vs : List X) (rest : Text) (us : List Lexeme) → AreWords value (v ∷ vs) → Ends rest → tokens rest ≡ Some us
    → tokens (join_by value (codes ",") (v ∷ vs) ++ rest) ≡ Some (value_tokens (map value (v ∷ vs)) ++ us)
unfolding is_word_byte
values_lexed value v [] rest us words ends e =
    ap (λ text. tokens (text ++ rest)) (append-nil (value v))
    ∙ word_then (value v) rest us (All-head (λ x. IsWord (value x)) v [] words) ends e
values_lexed value v (w ∷ ws) rest us words ends e =
    let more = join_by value (codes ",") (w ∷ ws) in
    let after = values_lexed value w ws rest us (All-tail (λ x. IsWord (value x)) v (w ∷ ws) words) ends e in
    ap tokens (append_assoc (value v) (44 ∷ more) rest)
    ∙ word_then (value v) (44 ∷ (more ++ rest)) (comma ∷ (value_tokens (map value (w ∷ ws)) ++ us)) (All-head (λ x. IsWord (value x)) v (w ∷ ws) words) refl
    (comma_then (more ++ rest) (value_tokens (map value (w ∷ ws)) ++ us) after)

-- a set before other tokens
pub set_then : {X : Type 0} (value : X → Text) (v : X) (vs : List X) (rest : Text) (us : List Lexeme) → AreWords value (v ∷ vs) → tokens rest ≡ Some us
    → tokens (set_text value (v ∷ vs) ++ rest) ≡ Some (set_tokens (map value (v ∷ vs)) ++ us)
unfolding is_word_byte
set_then value v vs rest us words e =
    let inner = join_by value (codes ",") (v ∷ vs) in
    let named = value_tokens (map value (v ∷ vs)) in
    ap (λ text. tokens (123 ∷ text)) (append_assoc inner (codes "}") rest)
    ∙ open_then (inner ++ 125 ∷ rest) (named ++ close_brace ∷ us)
    (values_lexed value v vs (125 ∷ rest) (close_brace ∷ us) words refl (close_then rest us e))
    ∙ ap (λ (ts : List Lexeme). Some (open_brace ∷ ts)) (sym (append_assoc named (close_brace ∷ []) us))
