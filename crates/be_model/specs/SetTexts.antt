-- Sets of values as texts over a schema.
use Rattle.std.specs.Prelude.{◌≡◌, ℕ, ℤ, pos, ◌≤◌, ◌+◌, Bool, false, List, [], ◌∷◌, length, map, All, Option, Some, None}
use Rattle.std.specs.List.{list_any}
use Rattle.std.specs.Option.{is_none, option_map_or}
use Rattle.be_base.specs.Text.{Text, IsName, IsWord}
use Rattle.be_base.specs.Tokens.{Lexeme}
use Rattle.be_base.specs.Readers.{Read}
use Rattle.be_base.specs.declared.limits.TheConstants.{SET_VALUES}
use Rattle.be_base.specs.declared.names.AttrNo.{AttrNo}
use Rattle.be_model.specs.Schemas.{value_at}
use Rattle.be_model.specs.Forms.{put_value}
use Rattle.be_model.specs.Schemas.{Attributes}
use Rattle.be_model.specs.Texts.{value_text_at, name_at}
use Rattle.be_model.specs.declared.set_texts.Met.{Met}

-- the value of a word that has one
abbrev pub known : Attributes → AttrNo → Text → ℤ
known s a v = option_map_or (λ n. n) (value_at s a v) (pos 0)

-- one of the words has no value in the attribute's domain
abbrev pub has_outside : Attributes → AttrNo → List Text → Bool
has_outside s a words = list_any (λ v. is_none (value_at s a v)) words

-- the same, where there is an attribute
abbrev pub some_outside : Attributes → Option AttrNo → List Text → Bool
some_outside s o words = option_map_or (λ a. has_outside s a words) o false

-- the different values, rising
abbrev pub rising : List ℤ → List ℤ
rising [] = []
rising (v ∷ vs) = put_value v (rising vs)

-- the set that words mean, where each of them has a value
abbrev pub meant_values : Attributes → AttrNo → List Text → List ℤ
meant_values s a words = rising (map (known s a) words)

-- how many words there are, and whether one of them has no value
abbrev pub met_in : Attributes → Option AttrNo → List Text → Met
met_in s o words = record { count = length words; is_outside = some_outside s o words }

abbrev pub met_with : Attributes → Option AttrNo → List Text × List Lexeme → Met × List Lexeme
met_with s o r = (met_in s o r.0, r.1)

abbrev pub values_with : Attributes → AttrNo → List Text × List Lexeme → List ℤ × List Lexeme
values_with s a r = (meant_values s a r.0, r.1)

-- words were read, at most 64 with n more, and each has a value
abbrev pub FineValues : Attributes → AttrNo → ℕ → Read (List Text) → Type 0
FineValues s a n None = ⊥
FineValues s a n (Some r) = (has_outside s a r.0 ≡ false) × (n + length r.0 ≤ SET_VALUES)

-- the attribute's name is a name, and the texts of the values are words
abbrev pub IsSpelled : Attributes → AttrNo → List ℤ → Type 0
IsSpelled s a vs = IsName (name_at s a) × All (λ v. IsWord (value_text_at s a v)) vs
