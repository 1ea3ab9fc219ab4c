-- The list of a run with one session.
use Rattle.std.specs.Prelude.{ℕ, ◌+◌, List, [], ◌∷◌, ◌++◌, length}
use Rattle.be_model.specs.declared.preds.Pred.{Pred}
use Rattle.be_model.specs.declared.changes.Row.{Row}
use Rattle.be_change.specs.History.{Text, Entry, subscribed, unsubscribed, left}
use Rattle.be_change.specs.Requests.{Request, subscribe, unsubscribe, quit, ok, held, bye, Exchange}

-- the row that session k subscribes at this place
abbrev pub row_made : (k place : ℕ) → Text → List Pred → Row
row_made k place name conj = record { id = record { 0 = place }; session = record { 0 = k }; name = name; conj = conj }

-- the change that the request names, made by session k as its change number `serial`, at this place
abbrev pub change_named : (k serial place : ℕ) → Request → List Entry
change_named k serial place (subscribe name conj) = subscribed k serial (row_made k place name conj) ∷ []
change_named k serial place (unsubscribe name) = unsubscribed k serial name ∷ []
change_named k serial place quit = left k serial ∷ []
change_named k serial place _ = []

-- what an exchange adds to the list
abbrev pub change_made : (k serial place : ℕ) → Exchange → List Entry
change_made k serial place (r, ok n) = change_named k serial place r
change_made k serial place (r, held n) = change_named k serial place r
change_made k serial place (r, bye n) = change_named k serial place r
change_made k serial place _ = []

-- the changes that the lines answered as accepted name, in order, from this serial and this place on
abbrev pub changes_made : (k serial place : ℕ) → List Exchange → List Entry
changes_made k serial place [] = []
changes_made k serial place (p ∷ ps) =
    change_made k serial place p ++ changes_made k (serial + length (change_made k serial place p)) (place + length (change_made k serial place p)) ps

-- the opening, and then the changes that the lines answered as accepted name, with serials from 0 and each place as id
abbrev pub made : List Entry → ℕ → List Exchange → List Entry
made opening k ps = opening ++ changes_made k 0 (length opening) ps
