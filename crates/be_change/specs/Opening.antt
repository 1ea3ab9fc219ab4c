-- A table of rows with which a list may begin.
use Rattle.std.specs.Prelude.{◌≡◌, ℕ, ◌+◌, ◌==◌, Bool, true, List, [], ◌∷◌, map}
use Rattle.std.specs.List.{list_all}
use Rattle.be_model.specs.declared.changes.Row.{Row}
use Rattle.be_model.specs.ByIds.{SayIds}
use Rattle.be_base.specs.TextLists.{all_differ}
use Rattle.be_change.specs.History.{Entry, subscribed, ByIds}

-- Subs alone of one session, the first of which has this serial
abbrev pub subs_of : ℕ → ℕ → List Row → List Entry
subs_of k n [] = []
subs_of k n (row ∷ rows) = subscribed k n row ∷ subs_of k (n + 1) rows

-- each row at its place, the first at this one
abbrev pub by_place : ℕ → List Row → ByIds
by_place place [] = []
by_place place (row ∷ rows) = (place, row) ∷ by_place (place + 1) rows

abbrev pub is_of_nobody : Row → Bool
is_of_nobody row = row.session.0 == 0

-- the rows of an opening: of session 0, with their places as ids, under different names
pub record IsTable (rows : List Row) : Type 0 where
  pub owner : list_all is_of_nobody rows ≡ true
  pub ids : SayIds (by_place 0 rows)
  pub names : all_differ (map (λ (row : Row). row.name) rows) ≡ true

-- the list that begins with the table
abbrev pub opening_of : List Row → List Entry
opening_of rows = subs_of 0 0 rows
