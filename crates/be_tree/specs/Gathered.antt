-- Rows of one session, or of all.
use Rattle.std.specs.Prelude.{◌==◌, Bool, true, List, filter, Option, Some, None}
use Rattle.be_base.specs.declared.names.SessionNo.{SessionNo}
use Rattle.be_model.specs.declared.changes.Row.{Row}

-- the row is of the session; where none is named, every row is wanted
abbrev pub is_wanted : Option SessionNo → Row → Bool
is_wanted None row = true
is_wanted (Some k) row = row.session.0 == k.0

-- the wanted of the rows
abbrev pub wanted : Option SessionNo → List Row → List Row
wanted k rows = filter (is_wanted k) rows
