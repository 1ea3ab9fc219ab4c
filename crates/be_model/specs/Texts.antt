-- Values and names of a schema as texts.
use Rattle.std.specs.Prelude.{◌≡◌, ℤ, ◌<◌, true, [], get_or, length, Some, All, unsigned_abs}
use Rattle.std.specs.Fmt.{signed_decimal}
use Rattle.std.specs.Option.{option_map_or}
use Rattle.be_base.specs.Text.{Text, IsName, IsWord}
use Rattle.be_base.specs.declared.names.AttrNo.{AttrNo}
use Rattle.be_model.specs.declared.schemas.Domain.{Domain}
use Rattle.be_model.specs.declared.schemas.Domain.TheVariants.{Int, Sym}
use Rattle.be_model.specs.declared.schemas.Attribute.{Attribute}
use Rattle.be_model.specs.Domains.{bounds_of, is_within, value_of_word}
use Rattle.be_model.specs.Schemas.{Attributes, IsSchema, is_domain, attribute_at, attribute_named}

-- the text of a value: the number in shortest decimal, or the word at its place
abbrev pub value_text : Domain → ℤ → Text
value_text (Int lo hi) v = signed_decimal v
value_text (Sym words) v = get_or words (unsigned_abs v) []

abbrev pub value_text_at : Attributes → AttrNo → ℤ → Text
value_text_at s a v = option_map_or (λ (x : Attribute). value_text x.domain v) (attribute_at s a) []

abbrev pub name_at : Attributes → AttrNo → Text
name_at s a = option_map_or (λ (x : Attribute). x.name) (attribute_at s a) []

-- the words of a domain are names
abbrev pub WordsAreNames : Domain → Type 0
WordsAreNames (Int lo hi) = Unit {0}
WordsAreNames (Sym words) = All IsName words

-- the names of the attributes are names, and so are the words of the domains. A `Schema` has no others
abbrev pub NamesAreNames : Attributes → Type 0
NamesAreNames s = All (λ (x : Attribute). IsName x.name × WordsAreNames x.domain) s

-- a value of a domain is read back from its text
abbrev pub ValuesAreRead : Type 0
ValuesAreRead =
    (d : Domain) (v : ℤ) → is_domain d ≡ true → is_within (bounds_of d) v ≡ true → value_of_word d (value_text d v) ≡ Some v

-- the text of a value of a domain is a word
abbrev pub ValuesAreWords : Type 0
ValuesAreWords =
    (d : Domain) (v : ℤ) → is_domain d ≡ true → WordsAreNames d → is_within (bounds_of d) v ≡ true → IsWord (value_text d v)

-- an attribute is found by its name
abbrev pub NamesAreFound : Type 0
NamesAreFound = (s : Attributes) (a : AttrNo) → IsSchema s → a.0 < length s → attribute_named s (name_at s a) ≡ Some a
