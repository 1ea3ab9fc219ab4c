-- Replies that name rows.
use Rattle.std.specs.Prelude.{ℕ, List, map, codes}
use Rattle.be_base.specs.Text.{Text}
use Rattle.be_model.specs.declared.changes.Row.{Row}
use Rattle.be_change.specs.Requests.{Reply, hit, listed}
use Rattle.be_protocol.specs.declared.texts.Naming.{Naming}
use Rattle.be_protocol.specs.declared.texts.Naming.TheVariants.{Hit, List as Listing}

abbrev pub names_in : List Row → List Text
names_in rows = map (λ (row : Row). row.name) rows

-- the reply that names them
abbrev pub naming : Naming → ℕ → List Text → Reply
naming Hit n names = hit n names
naming Listing n names = listed n names

-- its first word
abbrev pub head_of : Naming → Text
head_of Hit = codes "HIT"
head_of Listing = codes "LIST"
