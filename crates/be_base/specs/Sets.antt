-- Sets of values as texts: `{1,2}`.
use Rattle.std.specs.Prelude.{Bool, true, false, List, [], ◌∷◌, ◌++◌, Some, None, option_map, codes}
use Rattle.std.specs.List.{join_by}
use Rattle.be_base.specs.Text.{Text}
use Rattle.be_base.specs.Tokens.{Lexeme, word, open_brace, close_brace, comma}
use Rattle.be_base.specs.Readers.{Read}
use Rattle.be_base.specs.declared.sets.SetValue.{SetValue}

-- values parted by commas
abbrev pub value_tokens : List Text → List Lexeme
value_tokens [] = []
value_tokens (v ∷ []) = word v ∷ []
value_tokens (v ∷ w ∷ vs) = word v ∷ comma ∷ value_tokens (w ∷ vs)

-- values parted by commas, in braces
abbrev pub set_tokens : List Text → List Lexeme
set_tokens vs = open_brace ∷ value_tokens vs ++ close_brace ∷ []

-- a set has at least one value
abbrev pub is_filled : List Text → Bool
is_filled [] = false
is_filled (v ∷ vs) = true

abbrev pub with_value : Text → List Text × List Lexeme → List Text × List Lexeme
with_value v r = (v ∷ r.0, r.1)

-- values up to the closing brace
abbrev pub read_values : List Lexeme → Read (List Text)
read_values (word v ∷ comma ∷ ts) = option_map (with_value v) (read_values ts)
read_values (word v ∷ close_brace ∷ ts) = Some (v ∷ [], ts)
read_values _ = None

-- a value of a set, and whether it is the last
abbrev pub read_value : List Lexeme → Read (Text × Bool)
read_value (word v ∷ comma ∷ ts) = Some ((v, false), ts)
read_value (word v ∷ close_brace ∷ ts) = Some ((v, true), ts)
read_value _ = None

abbrev pub plain_value : SetValue → Text × Bool
plain_value value = (value.word.now, value.is_last)

-- the text of a set, without blanks
abbrev pub set_text : {X : Type 0} → (X → Text) → List X → Text
set_text value vs = codes "{" ++ join_by value (codes ",") vs ++ codes "}"
