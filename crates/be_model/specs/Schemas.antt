-- Schemas: which attributes there are.
pub use Rattle.be_base.specs.TextLists.{is_among_texts, all_differ}
use Rattle.std.specs.Prelude.{◌≡◌, ℕ, ℤ, ◌≤◌, ◌&&◌, not, Bool, true, false, List, [], ◌∷◌, length, map, nat_le, int_le, Option, option_and_then, option_map, Result, Ok, Err, slice_get, codes}
use Rattle.std.specs.List.{list_all}
use Rattle.be_base.specs.Text.{Text, name_of}
use Rattle.be_base.specs.declared.limits.TheConstants.{ATTRIBUTES, FIRST_INT, LAST_INT, SYMBOLS}
use Rattle.be_base.specs.declared.names.NameFault.{NameFault}
use Rattle.be_base.specs.declared.names.AttrNo.{AttrNo}
use Rattle.be_model.specs.declared.schemas.Domain.{Domain}
use Rattle.be_model.specs.declared.schemas.Domain.TheVariants.{Int, Sym}
use Rattle.be_model.specs.declared.schemas.Attribute.{Attribute}
use Rattle.be_model.specs.Domains.{Range, bounds_of, place_of, value_of_word}

-- a schema, as its attributes in order
abbrev pub Attributes : Type 0
Attributes = List Attribute

abbrev pub names_of_attributes : Attributes → List Text
names_of_attributes s = map (λ (a : Attribute). a.name) s

-- `all`, `and`, `between`, `in` and `not`
abbrev pub reserved_words : List Text
reserved_words = codes "all" ∷ codes "and" ∷ codes "between" ∷ codes "in" ∷ codes "not" ∷ []

abbrev pub is_domain : Domain → Bool
is_domain (Int lo hi) = int_le FIRST_INT lo && int_le lo hi && int_le hi LAST_INT
is_domain (Sym words) = nat_le 1 (length words) && nat_le (length words) SYMBOLS && all_differ words

-- the form of a schema
pub record IsSchema (s : Attributes) : Type 0 where
  pub few : length s ≤ ATTRIBUTES
  pub differ : all_differ (names_of_attributes s) ≡ true
  pub unreserved : list_all (λ name. not (is_among_texts name reserved_words)) (names_of_attributes s) ≡ true
  pub domains : list_all (λ (a : Attribute). is_domain a.domain) s ≡ true

-- whether an attribute may be put last
abbrev pub takes : Attributes → Text → Domain → Bool
takes s name domain =
    not (nat_le ATTRIBUTES (length s)) && not (is_among_texts name (names_of_attributes s)) && not (is_among_texts name reserved_words) && is_domain domain

abbrev pub attribute_of : Text → Domain → Attribute
attribute_of name domain = record { name = name; domain = domain }

abbrev pub numbered : ℕ → AttrNo
numbered place = record { 0 = place }

-- the attribute of this name
abbrev pub attribute_named : Attributes → Text → Option AttrNo
attribute_named s name = option_map numbered (place_of name (names_of_attributes s))

abbrev pub attribute_at : Attributes → AttrNo → Option Attribute
attribute_at s a = slice_get s a.0

-- the range of an attribute that the schema has
abbrev pub range_of : Attributes → AttrNo → Option Range
range_of s a = option_map (λ (x : Attribute). bounds_of x.domain) (attribute_at s a)

-- the value of the word in the attribute's domain
abbrev pub value_at : Attributes → AttrNo → Text → Option ℤ
value_at s a text = option_and_then (λ (x : Attribute). value_of_word x.domain text) (attribute_at s a)

-- the text was read as a name
abbrev pub is_name : Result Text NameFault → Bool
is_name (Ok name) = true
is_name (Err fault) = false

-- a name that isn't reserved
abbrev pub is_attr : Text → Bool
is_attr text = is_name (name_of text) && not (is_among_texts text reserved_words)
