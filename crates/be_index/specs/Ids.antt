-- Ids of rows that were found.
use Rattle.std.specs.Prelude.{ℕ, List, map}
use Rattle.be_model.specs.declared.changes.Row.{Row}
use Rattle.be_model.specs.ByIds.{ByIds}

-- ids, and how many more can be put without memory
pub record FoundIds : Type 0 where
  pub ids : List ℕ
  pub spare : ℕ

abbrev pub ids : List ℕ → ℕ → FoundIds
ids known spare = record { ids = known; spare = spare }

abbrev pub ids_of : ByIds → List ℕ
ids_of m = map (λ (r : ℕ × Row). r.0) m
