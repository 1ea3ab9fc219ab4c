-- What a large leaf keeps beside its rows.
use Rattle.std.specs.Prelude.{◌≡◌, ℕ, ◌*◌, ◌<◌, ◌≤◌, ⊤, List, length, take, drop, slice_get, Option, Some, None}
use Rattle.std.specs.Global.{Box}
use Rattle.be_model.specs.declared.changes.Row.{Row}
use Rattle.be_shape.specs.declared.columns.Columns.{Columns}
use Rattle.be_shape.specs.declared.large.Large.{Large}
use Rattle.be_shape.specs.Columns.{AreColumnsOf}
use Rattle.be_shape.specs.Leaves.{rows_of_places}

-- the places of the block of this number
abbrev pub block_at : ℕ → List (Option Row) → List (Option Row)
block_at b places = take 32 (drop (32 * b) places)

-- what is told of a block is of the rows that stand there, and of no block but a whole one is anything told
pub record TellBlocks (places : List (Option Row)) (columns : List (Option (Box Columns))) : Type 0 where
  pub whole : 32 * length columns ≤ length places
  pub told : (b : ℕ) (c : Box Columns) → slice_get columns b ≡ Some (Some c) → AreColumnsOf c.value (rows_of_places (block_at b places))

-- what is told of a block was told of it before, of no more blocks, and of none from `first` up to `end`
pub record AreForgotten (first end : ℕ) (old new : List (Option (Box Columns))) : Type 0 where
  pub few : length new ≤ length old
  pub was : (b : ℕ) (c : Box Columns) → slice_get new b ≡ Some (Some c) → slice_get old b ≡ Some (Some c)
  pub outside : (b : ℕ) (c : Box Columns) → slice_get new b ≡ Some (Some c) → first ≤ b → b < end → ⊥

-- what stands beside the rows at the places is of them
abbrev pub IsBeside : List (Option Row) → Option (Box Large) → Type 0
IsBeside places None = ⊤
IsBeside places (Some b) = TellBlocks places b.value.columns.items
