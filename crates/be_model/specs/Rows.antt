-- Rows behind shared references, as contracts see them.
use Rattle.std.specs.Prelude.{ℕ, ◌+◌, ◌≤◌, Bool, List, length, map}
use Rattle.std.specs.List.{list_any}
use Rattle.std.specs.Arc.{arc_value}
use Rattle.std.specs.declared.sync.Arc.{Arc}
use Rattle.be_base.specs.declared.names.AttrNo.{AttrNo}
use Rattle.be_model.specs.declared.changes.Row.{Row}
use Rattle.be_model.specs.Hulls.{is_on}

abbrev pub rows_in : {Z : Type 0} → List (Arc Row Z) → List Row
rows_in xs = map (λ x. arc_value x) xs

-- rows that were found, and how many more can be put without memory
pub record FoundRows : Type 0 where
  pub rows : List Row
  pub spare : ℕ

abbrev pub found : List Row → ℕ → FoundRows
found rows spare = record { rows = rows; spare = spare }

-- the rows and the room for more together are no less
abbrev pub KeepsRoom : FoundRows → FoundRows → Type 0
KeepsRoom before after = length before.rows + before.spare ≤ length after.rows + after.spare

abbrev pub id_of : Row → ℕ
id_of row = row.id.0

-- the row has a predicate on the attribute
abbrev pub has : AttrNo → Row → Bool
has a row = list_any (is_on a) row.conj
