-- What is read from the front of a text's tokens.
use Rattle.std.specs.Prelude.{Bool, true, false, List, [], ◌∷◌, Option, Some, None, option_map, if◌then◌else◌}
use Rattle.std.specs.Borrow.{Bor}
use Rattle.be_base.specs.Text.{Text, same_text}
use Rattle.be_base.specs.Tokens.{Lexeme, word, open_brace, tokens}

-- what was read, and the tokens after it
abbrev pub Read : Type 0 → Type 0
Read X = Option (X × List Lexeme)

abbrev pub is_empty : List Lexeme → Bool
is_empty [] = true
is_empty (t ∷ ts) = false

abbrev pub read_word : List Lexeme → Read Text
read_word (word w ∷ ts) = Some (w, ts)
read_word _ = None

-- the tokens after the wanted word
abbrev pub after_word : Text → List Lexeme → Option (List Lexeme)
after_word wanted (word w ∷ ts) = if same_text w wanted then Some ts else None
after_word wanted _ = None

-- the tokens after an opening brace
abbrev pub after_brace : List Lexeme → Option (List Lexeme)
after_brace (open_brace ∷ ts) = Some ts
after_brace _ = None

-- what a reader found in a text, and the tokens of the text that it left
abbrev pub following : {X Y : Type 0} → (X → Y) → Option (X × Bor Text) → Read Y
following plain None = None
following plain (Some r) = option_map (λ ts. (plain r.0, ts)) (tokens r.1.now)

abbrev pub now_of : Bor Text → Text
now_of text = text.now
