-- The one history of changes: its rule, and what a step that adds a change tells.
use Rattle.std.specs.Prelude.{ℕ, ◌≡◌, true, List, [], ◌∷◌, ◌++◌, length}
use Rattle.logbook.specs.Pages.{Book, Cell, Named, Step, View}
use Rattle.be_model.specs.Schemas.{Attributes}
use Rattle.be_change.specs.History.{Entry}

-- the first word is the length of the history. A book has two words, and the second of this one stays 0
pub record IsHistory (cells : List Cell) (log : List Entry) : Type 0 where
  pub words : cells ≡ (length log, true) ∷ (0, true) ∷ []

abbrev pub head_of : Book → Named
head_of book = record { tracked = true; key = 0; book = book }

-- where the history was what had been seen of it, the change was put last
abbrev pub Adds : Step Entry → View Entry ℕ → ℕ → View Entry ℕ → Type 0
Adds s v found w = found ≡ s.old → w.0 ≡ v.0 ++ s.ask ∷ []

-- names of nothing, from which a caller picks others
abbrev pub no_book : Book
no_book = record { number = 0; log_name = 0; cells_name = 0 }

abbrev pub no_attributes : Attributes
no_attributes = []
