-- The bytes of words and names.
use Rattle.std.specs.Prelude.{◌≡◌, ℕ, ◌<◌, ◌≤◌, ◌==◌, ◌||◌, ◌&&◌, Bool, true, not, List, length, nat_lt, nat_le, Result, Ok, Err, position, if◌then◌else◌}
use Rattle.std.specs.List.{list_all}
use Rattle.std.specs.Option.{option_map_or}
use Rattle.std.specs.Str.{bytes_eq}
use Rattle.be_base.specs.declared.limits.TheConstants.{NAME_BYTES}
use Rattle.be_base.specs.declared.names.NameFault.{NameFault}
use Rattle.be_base.specs.declared.names.NameFault.TheVariants.{Empty, TooLong, Byte}

abbrev pub Text : Type 0
Text = List ℕ

abbrev pub same_text : Text → Text → Bool
same_text = bytes_eq

abbrev pub is_between : ℕ → ℕ → ℕ → Bool
is_between low high b = nat_le low b && nat_le b high

-- A-Z, a-z, 0-9, `_`, `.` and `-`
unfoldable pub is_word_byte : ℕ → Bool
is_word_byte b =
    is_between 65 90 b || is_between 97 122 b || is_between 48 57 b || b == 95 || b == 46 || b == 45

-- a byte that no name has
abbrev pub is_stray : ℕ → Bool
is_stray b = not (is_word_byte b)

-- one or more bytes of a word
pub record IsWord (text : Text) : Type 0 where
  pub some : 0 < length text
  pub bytes : list_all is_word_byte text ≡ true

-- the form of a name
pub record IsName (text : Text) : Type 0 where
  pub some : 0 < length text
  pub short : length text ≤ NAME_BYTES
  pub bytes : list_all is_word_byte text ≡ true

-- the name that a text is, or the first fault of the three
abbrev pub name_of : Text → Result Text NameFault
name_of text =
    if length text == 0 then Err Empty else
    (if nat_lt NAME_BYTES (length text) then Err (TooLong (length text)) else
    option_map_or (λ place. Err (Byte place)) (position is_stray text) (Ok text))
