-- Names of rows by their ids, as replies have them.
use Rattle.std.specs.Prelude.{◌≡◌, ℕ, List, [], ◌∷◌, map, Option, Some, None, slice_get, get_or, IfSome}
use Rattle.std.specs.List.{flat_map}
use Rattle.be_base.specs.Text.{Text}
use Rattle.be_model.specs.declared.changes.Row.{Row}
use Rattle.be_change.specs.Entries.{row_in}
use Rattle.be_change.specs.History.{Entry}

-- a row's name after a space; no text where there is none
abbrev pub spaced_name : Option Row → Text
spaced_name None = []
spaced_name (Some row) = 32 ∷ row.name

-- that of the row that an entry makes
abbrev pub spaced_of : Entry → Text
spaced_of e = spaced_name (row_in (Some e))

-- that of the row of the Sub at this place
abbrev pub spaced_at : List Entry → ℕ → Text
spaced_at h id = spaced_name (row_in (slice_get h id))

-- those at these places
abbrev pub all_spaced_at : List Entry → List ℕ → Text
all_spaced_at h ids = flat_map (spaced_at h) ids

-- those of these texts
abbrev pub all_texts_at : List Text → List ℕ → Text
all_texts_at texts ids = flat_map (λ id. get_or texts id []) ids

-- a text for each entry of the list, where there are texts
abbrev pub AreNamesOf : List Entry → Option (List Text) → Type 0
AreNamesOf h names = IfSome names (λ texts. texts ≡ map spaced_of h)
