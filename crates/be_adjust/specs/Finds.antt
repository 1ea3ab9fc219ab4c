-- The row of an id that has an attribute.
use Rattle.std.specs.Prelude.{ℕ, ◌==◌, ◌&&◌, Bool, List, [], ◌∷◌, Option, None, Some, if◌then◌else◌}
use Rattle.be_base.specs.declared.names.AttrNo.{AttrNo}
use Rattle.be_model.specs.declared.changes.Row.{Row}
use Rattle.be_model.specs.Rows.{id_of, has}

-- the row has the id, and a predicate on the attribute
abbrev pub may_shift : AttrNo → ℕ → Row → Bool
may_shift to id row = id_of row == id && has to row

-- the first row that passes a test
abbrev pub first_of : (Row → Bool) → List Row → Option Row
first_of p [] = None
first_of p (row ∷ rows) = if p row then Some row else first_of p rows
