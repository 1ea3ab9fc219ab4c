-- What a DUMP is answered, read as a load file.
use Rattle.std.specs.Prelude.{◌≡◌, ℕ, ◌+◌, true, List, [], ◌∷◌, All, Ok}
use Rattle.std.specs.List.{list_all}
use Rattle.be_base.specs.Text.{IsName}
use Rattle.be_base.specs.TextLists.{all_differ}
use Rattle.be_model.specs.declared.changes.Row.{Row}
use Rattle.be_model.specs.Forms.{IsConj}
use Rattle.be_model.specs.Lies.{row_lies}
use Rattle.be_model.specs.Schemas.{Attributes, IsSchema}
use Rattle.be_model.specs.Texts.{NamesAreNames}
use Rattle.be_change.specs.Requests.{dumped}
use Rattle.be_expr.specs.Changes.{new_row}
use Rattle.be_protocol.specs.Replies.{reply_text}
use Rattle.be_load_files.specs.Tables.{row_names, table_of}

-- these rows as those of a table: the same names and conditions in the same order, with their places as ids, the first of
-- which is this one, and of session 0
abbrev pub as_table : ℕ → List Row → List Row
as_table place [] = []
as_table place (row ∷ rows) = new_row place 0 row.name row.conj ∷ as_table (place + 1) rows

-- rows as a list of changes has them live: each has a name and a condition, the conditions lie in the schema, and the names
-- differ
pub record AreRows (s : Attributes) (rows : List Row) : Type 0 where
  pub forms : All (λ (row : Row). IsName row.name × IsConj row.conj) rows
  pub lie : list_all (row_lies s) rows ≡ true
  pub differ : all_differ (row_names rows) ≡ true

-- the reply to a DUMP is a load file of the rows that it tells
abbrev pub DumpsReadBack : Type 0
DumpsReadBack =
    (s : Attributes) (n : ℕ) (rows : List Row) → IsSchema s → NamesAreNames s → AreRows s rows
    → table_of s (reply_text s (dumped n rows)) ≡ Ok (as_table 0 rows)
