-- What is told of the rows of a block, column by column.
use Rattle.std.specs.Prelude.{◌≡◌, ◌<◌, ◌&&◌, ℕ, Bool, true, List, length, get_or, slice_get, Some}
use Rattle.be_model.specs.declared.changes.Row.{Row}
use Rattle.be_model.specs.Matching.{Assignments, values_of, satisfies}
use Rattle.be_model.specs.Rows.{id_of}
use Rattle.be_model.specs.Schemas.{numbered}
use Rattle.be_shape.specs.declared.columns.Column.{Column}
use Rattle.be_shape.specs.declared.columns.Columns.{Columns}
use Rattle.be_shape.specs.declared.columns.Entry.{Entry}
use Rattle.be_shape.specs.declared.lanes.LaneSlots.{LaneSlots}
use Rattle.be_shape.specs.Lanes.{Slot, lets, seen, are_single, free}

-- a number is in each of three slots
abbrev pub lets_all : ℕ → LaneSlots → Bool
lets_all x slots = lets x slots.first && (lets x slots.second && lets x slots.third)

-- what is seen of the attribute's values is in each of three slots
abbrev pub passes_on : Assignments → ℕ → LaneSlots → Bool
passes_on e a slots = lets_all (seen (values_of e (numbered a))) slots

-- of events of single values the row is satisfied by those that its slots of the attribute let pass
abbrev pub MeansSlots : ℕ → LaneSlots → Row → Type 0
MeansSlots a slots row = (e : Assignments) → are_single e ≡ true → satisfies e row.conj ≡ passes_on e a slots

-- the entry has the row's id, and its slots are the row's meaning
pub record TellsRow (a : ℕ) (x : Entry) (row : Row) : Type 0 where
  pub id : id_of row ≡ x.id
  pub met : MeansSlots a x.slots row

-- the slot at a place of a column
abbrev pub slot_at : Column → ℕ → Slot
slot_at c i = (get_or c.lows i 0, get_or c.widths i 0)

-- the slots at a place
abbrev pub slots_at : Columns → ℕ → LaneSlots
slots_at c i = record { first = slot_at c.first i; second = slot_at c.second i; third = slot_at c.third i }

-- the slots and the id at a place
abbrev pub entry_at : Columns → ℕ → Entry
entry_at c i = record { slots = slots_at c i; id = get_or c.ids i 0 }

-- the rows at the places below this one are told, what lies beyond the hull is in none of their first slots, and where no row has more
-- than one lane the other slots are free
pub record AreTold (c : Columns) (rows : List Row) (n : ℕ) : Type 0 where
  pub told : (i : ℕ) (row : Row) → i < n → slice_get rows i ≡ Some row → TellsRow c.attr (entry_at c i) row
  pub hull : (i x : ℕ) → i < n → x < 4294967296 → lets x (slot_at c.first i) ≡ true → lets x c.hull ≡ true
  pub second : c.single ≡ true → (i : ℕ) → i < n → slot_at c.second i ≡ free
  pub third : c.single ≡ true → (i : ℕ) → i < n → slot_at c.third i ≡ free

-- these are the rows of the block
pub record AreColumnsOf (c : Columns) (rows : List Row) : Type 0 where
  pub many : length rows ≡ 32
  pub told : AreTold c rows 32

-- it says of each place whether the event satisfies the row there
abbrev pub TellPassing : List Bool → Assignments → List Row → Type 0
TellPassing passes e rows = (i : ℕ) (row : Row) → slice_get rows i ≡ Some row → slice_get passes i ≡ Some (satisfies e row.conj)
