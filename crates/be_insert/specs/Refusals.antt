-- Rows that are handed back where memory is wanting.
use Rattle.std.specs.Prelude.{List, [], ◌∷◌, Result, Ok, Err}
use Rattle.std.specs.Arc.{arc_value}
use Rattle.std.specs.declared.sync.Arc.{Arc}
use Rattle.be_base.specs.declared.names.NoMemory.{NoMemory}
use Rattle.be_model.specs.declared.changes.Row.{Row}

abbrev pub back : {A Z : Type 0} → Result A (Arc Row Z × NoMemory) → List Row
back (Ok x) = []
back (Err e) = arc_value e.0 ∷ []
