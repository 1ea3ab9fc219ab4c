-- Where rows are filed: under the number of their session, and under that of their name.
use Rattle.std.specs.Prelude.{◌≡◌, ℕ, ◌==◌, Bool, true, false, List, Option, Some, None, slice_get}
use Rattle.be_model.specs.declared.changes.Row.{Row}
use Rattle.be_model.specs.ByIds.{ByIds, row_at}
use Rattle.be_model.specs.Rows.{id_of}
use Rattle.be_model.specs.Schemas.{Attributes}
use Rattle.be_change.specs.History.{Entry, live}
use Rattle.be_change.specs.Entries.{row_in}
use Rattle.be_change.specs.Sound.{all_lie}
use Rattle.be_copy.specs.declared.register.Register.{Register}
use Rattle.be_copy.specs.declared.wanted.Wanted.{Wanted}
use Rattle.be_copy.specs.declared.wanted.Wanted.TheVariants.{Named, Own, Of}
use Rattle.be_copy.specs.Keys.{name_key}
use Rattle.be_copy.specs.Places.{is_listed}
use Rattle.be_copy.specs.Bitmaps.{is_noted}
use Rattle.be_copy.specs.Wanted.{wants}

abbrev pub session_of_row : Row → ℕ
session_of_row row = row.session.0

abbrev pub key_of_row : Row → ℕ
key_of_row row = name_key row.name

-- there is a row, and it has this key
abbrev pub is_keyed : (Row → ℕ) → ℕ → Option Row → Bool
is_keyed key k None = false
is_keyed key k (Some row) = key row == k

-- each row's id stands under its key, and nothing else stands there
abbrev pub AreFiled : (Row → ℕ) → (ℕ → ℕ → Bool) → ByIds → Type 0
AreFiled key stands m = (k i : ℕ) → stands k i ≡ is_keyed key k (row_at i m)

pub record IsRegister (r : Register) (m : ByIds) : Type 0 where
  pub sessions : AreFiled session_of_row (is_noted r.sessions.blocks.entries) m
  pub names : AreFiled key_of_row (is_listed r.names.pairs.keys) m

-- whether an id stands under the session, or the name, of the wanted rows
abbrev pub is_found : Register → Wanted → ℕ → Bool
is_found r (Named name) i = is_listed r.names.pairs.keys (name_key name.now) i
is_found r (Own session name) i = is_listed r.names.pairs.keys (name_key name.now) i
is_found r (Of session) i = is_noted r.sessions.blocks.entries session.0 i

-- each row is that of the Sub at the place that is its id
abbrev pub AreOfList : List Entry → ByIds → Type 0
AreOfList h m = (i : ℕ) (row : Row) → row_at i m ≡ Some row → row_in (slice_get h i) ≡ Some row

-- each row is wanted
abbrev pub AreWanted : Wanted → ByIds → Type 0
AreWanted w m = (i : ℕ) (row : Row) → row_at i m ≡ Some row → wants w (i, row) ≡ true

-- the row stands at its id and is wanted
pub record IsWantedRow (w : Wanted) (m : ByIds) (row : Row) : Type 0 where
  pub there : row_at (id_of row) m ≡ Some row
  pub wanted : wants w (id_of row, row) ≡ true

-- what the type of a copy keeps
pub record IsKept (s : Attributes) (h : List Entry) (rows : ByIds) (r : Register) : Type 0 where
  pub live : rows ≡ live h
  pub lies : all_lie s h ≡ true
  pub filed : IsRegister r rows
