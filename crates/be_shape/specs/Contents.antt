-- What a tree contains, looked up by ids.
use Rattle.std.specs.Prelude.{◌≡◌, ◌↔◌, ℕ, ◌==◌, false, Some}
use Rattle.std.specs.List.{Contains, list_any}
use Rattle.be_model.specs.declared.changes.Row.{Row}
use Rattle.be_model.specs.Rows.{id_of}
use Rattle.be_model.specs.ByIds.{row_at, has_id}
use Rattle.be_shape.specs.Plain.{Plain, rows_below, contents}

-- the row of an id is the row of a leaf that has this id
abbrev pub RowsAreFound : Plain → Type 0
RowsAreFound n =
    (id : ℕ) (row : Row) → (row_at id (contents n) ≡ Some row) ↔ (Contains (rows_below n) row × (id_of row ≡ id))

-- an id is new exactly where no row of a leaf has it
abbrev pub NewIdsAreNowhere : Plain → Type 0
NewIdsAreNowhere n = (id : ℕ) → (has_id id (contents n) ≡ false) ↔ (list_any (λ (row : Row). id_of row == id) (rows_below n) ≡ false)
