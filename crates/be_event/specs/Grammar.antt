-- Events as they are written: the grammar over tokens.
use Rattle.std.specs.Prelude.{◌≡◌, ◌↔◌, ◌&&◌, ℕ, zero, suc, Bool, true, List, [], ◌∷◌, ◌++◌, length, Option, Some, None, option_map, option_and_then, codes, if◌then◌else◌}
use Rattle.std.specs.List.{list_all}
use Rattle.be_base.specs.Text.{Text, same_text}
use Rattle.be_base.specs.Tokens.{Lexeme, word, equal, open_brace}
use Rattle.be_base.specs.Readers.{Read}
use Rattle.be_base.specs.Sets.{set_tokens, is_filled, read_values}
pub use Rattle.be_model.specs.Schemas.{is_name, is_attr}

-- what stands behind an item's `=`: a value, or a set of values, as words
pub data WrittenValues : Type 0 where
  single : Text → WrittenValues
  set : List Text → WrittenValues

pub record WrittenItem : Type 0 where
  pub attr : Text
  pub values : WrittenValues

abbrev pub item_of : Text → WrittenValues → WrittenItem
item_of attr values = record { attr = attr; values = values }

-- the values as they are written, from left to right
abbrev pub item_words : WrittenValues → List Text
item_words (single v) = v ∷ []
item_words (set vs) = vs

abbrev pub given_tokens : WrittenValues → List Lexeme
given_tokens (single v) = word v ∷ []
given_tokens (set vs) = set_tokens vs

-- items one after another, each an attribute, `=` and a value or a set
abbrev pub item_tokens : List WrittenItem → List Lexeme
item_tokens [] = []
item_tokens (item ∷ items) = word item.attr ∷ equal ∷ given_tokens item.values ++ item_tokens items

-- `-` alone, or items
abbrev pub event_tokens : List WrittenItem → List Lexeme
event_tokens [] = word (codes "-") ∷ []
event_tokens (item ∷ items) = item_tokens (item ∷ items)

-- the attributes have the form of attributes, and a set has at least one value
abbrev pub are_written : List WrittenItem → Bool
are_written items = list_all (λ (item : WrittenItem). is_attr item.attr && is_filled (item_words item.values)) items

-- a value or a set
abbrev pub read_given : List Lexeme → Read WrittenValues
read_given (word v ∷ ts) = Some (single v, ts)
read_given (open_brace ∷ ts) = option_map (λ r. (set r.0, r.1)) (read_values ts)
read_given _ = None

abbrev pub with_item_attr : Text → WrittenValues × List Lexeme → WrittenItem × List Lexeme
with_item_attr attr r = (item_of attr r.0, r.1)

abbrev pub read_item : List Lexeme → Read WrittenItem
read_item (word attr ∷ equal ∷ ts) = if is_attr attr then option_map (with_item_attr attr) (read_given ts) else None
read_item _ = None

-- items up to the end; fuel is how many there may be
abbrev pub read_items : ℕ → List Lexeme → Option (List WrittenItem)
read_items fuel [] = Some []
read_items zero (t ∷ ts) = None
read_items (suc fuel) (t ∷ ts) =
    option_and_then (λ (r : WrittenItem × List Lexeme). option_map (λ items. r.0 ∷ items) (read_items fuel r.1)) (read_item (t ∷ ts))

-- the items that are all of the tokens. Each takes more than one token
abbrev pub items_of : List Lexeme → Option (List WrittenItem)
items_of ts = read_items (length ts) ts

-- the items that the tokens write
abbrev pub items_written : List Lexeme → Option (List WrittenItem)
items_written [] = None
items_written (word w ∷ []) = if same_text w (codes "-") then Some [] else None
items_written ts = items_of ts

-- this reading is the grammar's, and so each event has one reading
abbrev pub ReadsAreWritten : Type 0
ReadsAreWritten =
    (ts : List Lexeme) (items : List WrittenItem) → (items_written ts ≡ Some items ↔ (are_written items ≡ true) × (event_tokens items ≡ ts))
