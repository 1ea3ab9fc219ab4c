-- The words behind the command: which of them are options, and which stand by their places.
use Rattle.std.specs.Prelude.{◌==◌, Bool, false, List, [], ◌∷◌, ◌++◌, take, drop, length, Option, Some, None, option_and_then, codes, if◌then◌else◌}
use Rattle.std.specs.Option.{option_map_or}
use Rattle.be_base.specs.Text.{Text, same_text}

-- the word begins with `-`, and isn't `-` alone
abbrev pub is_dashed : Text → Bool
is_dashed [] = false
is_dashed (b ∷ []) = false
is_dashed (b ∷ c ∷ rest) = b == 45

-- what the next word is
pub data Next : Type 0 where
  -- a word by its place, an option or the separator
  any : Next
  -- the FILE of a `--load`
  file : Next
  -- a word by its place: the separator stands before it
  plain : Next

-- what was read of the words so far
pub record Progress : Type 0 where
  -- the words that stand by their places
  pub words : List Text
  -- the FILE of each `--load`
  pub loads : List Text
  pub next : Next

abbrev pub nothing_read : Progress
nothing_read = record { words = []; loads = []; next = any }

abbrev pub with_word : Text → Progress → Progress
with_word word a = record a { words = a.words ++ word ∷ [] }

abbrev pub with_load : Text → Progress → Progress
with_load word a = record { words = a.words; loads = a.loads ++ word ∷ []; next = any }

abbrev pub load_front : Text
load_front = codes "--load="

-- FILE of `--load=FILE`
abbrev pub load_in : Text → Option Text
load_in word = if same_text (take (length load_front) word) load_front then Some (drop (length load_front) word) else None

-- no word that begins with `-` is taken so, but `-` alone
abbrev pub undashed : (Text → Progress → Progress) → Text → Progress → Option Progress
undashed put word a = if is_dashed word then None else Some (put word a)

-- a word before any separator
abbrev pub with_any : Text → Progress → Option Progress
with_any word a =
    if same_text word (codes "--") then Some (record a { next = plain }) else
    (if same_text word (codes "--load") then Some (record a { next = file }) else
    option_map_or (λ named. Some (with_load named a)) (load_in word) (undashed with_word word a))

abbrev pub with_next_word : Next → Text → Progress → Option Progress
with_next_word any word a = with_any word a
with_next_word file word a = undashed with_load word a
with_next_word plain word a = Some (with_word word a)

-- the words that stand by their places, and the FILE of each `--load`
pub record Arguments : Type 0 where
  pub words : List Text
  pub loads : List Text

-- no `--load` waits for its FILE
abbrev pub ended : Next → Progress → Option Arguments
ended file a = None
ended _ a = Some (record { words = a.words; loads = a.loads })

-- these words read behind what was read
abbrev pub arguments_from : Progress → List Text → Option Arguments
arguments_from a [] = ended a.next a
arguments_from a (word ∷ words) = option_and_then (λ b. arguments_from b words) (with_next_word a.next word a)

abbrev pub arguments : List Text → Option Arguments
arguments words = arguments_from nothing_read words
