-- What is put of rows that were found.
use Rattle.std.specs.Prelude.{◌≡◌, ◌≤◌, ◌+◌, ◌++◌, ℕ, List, [], ◌∷◌, length, map, IsPermutation}
use Rattle.be_base.specs.Lists.{BeginsWith}
use Rattle.be_model.specs.declared.changes.Row.{Row}
use Rattle.be_model.specs.ByIds.{ByIds, rows_of}
use Rattle.be_model.specs.Matching.{Assignments, satisfied}
use Rattle.be_model.specs.Rows.{id_of}

-- an item for each row that was put; how many more can surely be put; and for how many there is memory, with those that were put
pub record Held (X : Type 0) : Type 0 where
  pub items : List X
  pub sure : ℕ
  pub places : ℕ

-- these items are put last, and take no more of the sure room than a place each
pub record Adds {X : Type 0} (before after : Held X) (more : List X) : Type 0 where
  pub put : after.items ≡ before.items ++ more
  pub kept : before.sure ≤ after.sure + length more

-- an item is put last of each row that has the id
abbrev pub PutsById : {X : Type 0} → (Row → X) → ℕ → (before after : Held X) → Type 0
PutsById of id before after = (row : Row) → id_of row ≡ id → Adds before after (of row ∷ [])

abbrev pub KeepsPlaces : {X : Type 0} → Held X → Held X → Type 0
KeepsPlaces before after = before.places ≤ after.places

-- what was put before stays in front, and there is memory for no fewer
pub record Grows {X : Type 0} (before after : Held X) : Type 0 where
  pub front : BeginsWith after.items before.items
  pub room : KeepsPlaces before after

-- an item of each of these rows is put behind what was put before, in some order
pub record PutsItems {X : Type 0} (of : Row → X) (rows : List Row) (before after : List X) : Type 0 where
  pub found : List Row
  pub put : after ≡ before ++ map of found
  pub exact : IsPermutation rows found

-- a search puts an item of each row that the event satisfies
abbrev pub PutsHits : {X : Type 0} → (Row → X) → Assignments → ByIds → (before after : Held X) → Type 0
PutsHits of e m before after = PutsItems of (satisfied e (rows_of m)) before.items after.items

-- what is put of these rows where the event satisfies them
abbrev pub hits_of : {X : Type 0} → (Row → X) → Assignments → List Row → List X
hits_of of e rows = map of (satisfied e rows)
