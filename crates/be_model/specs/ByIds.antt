-- Rows by their ids: a finite map, as a list whose ids rise.
use Rattle.std.specs.Prelude.{◌≡◌, ◌++◌, IsPermutation, ℕ, ◌==◌, ◌<◌, ◌&&◌, Bool, true, not, List, [], ◌∷◌, filter, map, nat_lt, Option, Some, None, if◌then◌else◌}
use Rattle.std.specs.List.{list_any}
use Rattle.std.specs.Arc.{arc_value}
use Rattle.std.specs.declared.sync.Arc.{Arc}
use Rattle.be_model.specs.declared.changes.Row.{Row}
use Rattle.be_model.specs.Rows.{id_of}

-- ids, and the row of each
abbrev pub ByIds : Type 0
ByIds = List (ℕ × Row)

-- a row more, before the first of a greater id
abbrev pub put_by_id : Row → ByIds → ByIds
put_by_id row [] = (id_of row, row) ∷ []
put_by_id row (r ∷ rs) =
    if nat_lt (id_of row) r.0 then (id_of row, row) ∷ r ∷ rs else r ∷ put_by_id row rs

-- rows in any order, put by their ids
abbrev pub by_ids : List Row → ByIds
by_ids [] = []
by_ids (row ∷ rows) = put_by_id row (by_ids rows)

-- a map of shared rows, as plain data
abbrev pub map_in : {Z : Type 0} → List (ℕ × Arc Row Z) → ByIds
map_in xs = map (λ (x : ℕ × Arc Row _). (x.0, arc_value x.1)) xs

abbrev pub rows_of : ByIds → List Row
rows_of m = map (λ (r : ℕ × Row). r.1) m

-- the row of an id
abbrev pub row_at : ℕ → ByIds → Option Row
row_at id [] = None
row_at id (r ∷ rs) = if r.0 == id then Some r.1 else row_at id rs

abbrev pub has_id : ℕ → ByIds → Bool
has_id id m = list_any (λ (r : ℕ × Row). r.0 == id) m

-- the rows but that of an id
abbrev pub without_id : ℕ → ByIds → ByIds
without_id id m = filter (λ (r : ℕ × Row). not (r.0 == id)) m

-- the row is a session's
abbrev pub is_of : ℕ → ℕ × Row → Bool
is_of k r = r.1.session.0 == k

abbrev pub AllBelow : ℕ → ByIds → Type 0
AllBelow n [] = Unit {0}
AllBelow n (r ∷ rs) = (r.0 < n) × AllBelow n rs

abbrev pub AllAbove : ℕ → ByIds → Type 0
AllAbove n [] = Unit {0}
AllAbove n (r ∷ rs) = (n < r.0) × AllAbove n rs

-- each id is below all ids that follow it, so that they differ
abbrev pub Rising : ByIds → Type 0
Rising [] = Unit {0}
Rising (r ∷ rs) = AllAbove r.0 rs × Rising rs

-- each row says its id itself
abbrev pub SayIds : ByIds → Type 0
SayIds [] = Unit {0}
SayIds (r ∷ rs) = (id_of r.1 ≡ r.0) × SayIds rs

abbrev pub ids_differ : List Row → Bool
ids_differ [] = true
ids_differ (row ∷ rows) = not (list_any (λ other. id_of other == id_of row) rows) && ids_differ rows

-- a session's rows
abbrev pub session_rows : ℕ → ByIds → List Row
session_rows k m = rows_of (filter (is_of k) m)

-- these rows are put behind what was found before, each once, in some order
pub record PutsEach (rows before after : List Row) : Type 0 where
  pub found : List Row
  pub put : after ≡ before ++ found
  pub exact : IsPermutation rows found
