-- The places that a search chooses.
use Rattle.std.specs.Prelude.{◌≡◌, ℕ, ◌+◌, true, List, map, take, drop, slice_get, Some, option_map}
use Rattle.std.specs.List.{All}
use Rattle.be_model.specs.declared.changes.Row.{Row}
use Rattle.be_model.specs.Matching.{Assignments, satisfies, satisfied}
use Rattle.be_shape.specs.declared.leaves.Choice.{Choice}

-- at these places, each counted from the place `from`, these rows stand
abbrev pub AreAt : List Row → ℕ → List Choice → List Row → Type 0
AreAt rows from chosen found = map (λ (c : Choice). slice_get rows (from + c.at)) chosen ≡ map Some found

-- at these places these rows stand
abbrev pub AreRowsAt : List Row → List ℕ → List Row → Type 0
AreRowsAt rows places found = map (slice_get rows) places ≡ map Some found

-- where it is said to be sure, the event satisfies the row at the place
abbrev pub IsRight : Assignments → List Row → ℕ → Choice → Type 0
IsRight e rows from c = c.sure ≡ true → option_map (λ (row : Row). satisfies e row.conj) (slice_get rows (from + c.at)) ≡ Some true

-- the rows among so many from a place on that the event satisfies
abbrev pub met_from : Assignments → List Row → ℕ → ℕ → List Row
met_from e rows from many = satisfied e (take many (drop from rows))

-- at these places stand all of so many rows from a place on that the event satisfies, in order, and others perhaps, but where it is
-- said to be sure
pub record Covers (e : Assignments) (rows : List Row) (from many : ℕ) (chosen : List Choice) : Type 0 where
  pub found : List Row
  pub at : AreAt rows from chosen found
  pub sure : All (IsRight e rows from) chosen
  pub all : satisfied e found ≡ met_from e rows from many
