-- The list of changes as contracts see it.
use Rattle.std.specs.Prelude.{◌≡◌, ℕ, ◌+◌, ◌-◌, ◌≤◌, List, [], ◌∷◌, length, map, min, Option, Some, None}
use Rattle.std.specs.Arc.{arc_value}
use Rattle.std.specs.declared.sync.Arc.{Arc}
use Rattle.be_base.specs.declared.limits.TheConstants.{LOG_CHANGES}
use Rattle.be_model.specs.declared.changes.Change.{Change}
use Rattle.be_model.specs.declared.changes.Row.{Row}
pub use Rattle.be_model.specs.Entries.{entry_of}
use Rattle.be_model.specs.ByIds.{map_in}
use Rattle.be_change.specs.History.{Entry, subscribed, unsubscribed, left, ByIds}

-- live rows by their ids, as plain data
abbrev pub live_in : {Z : Type 0} → List (ℕ × Arc Row Z) → ByIds
live_in xs = map_in xs

abbrev pub entries_in : {Z : Type 0} → List (Arc Change Z) → List Entry
entries_in xs = map (λ x. entry_of (arc_value x)) xs

-- a Sub's row has this place as its id
abbrev pub HasIdAt : ℕ → Entry → Type 0
HasIdAt place (subscribed k n row) = row.id.0 ≡ place
HasIdAt place (unsubscribed k n name) = Unit {0}
HasIdAt place (left k n) = Unit {0}

abbrev pub HaveIdsFrom : ℕ → List Entry → Type 0
HaveIdsFrom place [] = Unit {0}
HaveIdsFrom place (e ∷ es) = HasIdAt place e × HaveIdsFrom (place + 1) es

-- the id of each Sub's row is its place
abbrev pub IdsArePlaces : List Entry → Type 0
IdsArePlaces h = HaveIdsFrom 0 h

-- the row, where there is an entry and it is a Sub
abbrev pub row_in : Option Entry → Option Row
row_in None = None
row_in (Some (subscribed k n row)) = Some row
row_in (Some (unsubscribed k n name)) = None
row_in (Some (left k n)) = None

-- the changes, and how many more can be put without memory
pub record Log : Type 0 where
  pub list : List Entry
  pub spare : ℕ

abbrev pub log : List Entry → ℕ → Log
log list spare = record { list = list; spare = spare }

-- the room behind so many changes
abbrev pub spare_of : (len capacity : ℕ) → ℕ
spare_of len capacity = min capacity LOG_CHANGES - len

-- what the type keeps
pub record IsLog (h : List Entry) (capacity : ℕ) : Type 0 where
  pub fits : length h ≤ capacity
  pub few : length h ≤ LOG_CHANGES
  pub ids : IdsArePlaces h
