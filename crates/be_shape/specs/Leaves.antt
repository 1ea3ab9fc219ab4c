-- The rows of a leaf.
use Rattle.std.specs.Prelude.{Bool, true, false, List, [], ◌∷◌, Option, Some, None}
use Rattle.be_model.specs.declared.changes.Row.{Row}

-- the rows of places, blanks left out
abbrev pub rows_of_places : List (Option Row) → List Row
rows_of_places [] = []
rows_of_places (Some row ∷ places) = row ∷ rows_of_places places
rows_of_places (None ∷ places) = rows_of_places places

-- no place is a blank
abbrev pub are_rows : List (Option Row) → Bool
are_rows [] = true
are_rows (Some row ∷ places) = are_rows places
are_rows (None ∷ places) = false
