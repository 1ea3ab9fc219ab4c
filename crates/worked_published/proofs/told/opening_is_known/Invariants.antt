-- The history is the one that was opened, and the schema that of the changes.
use Rattle.std.specs.Arc.{arc_value}
use Rattle.std.specs.Prelude.{[]}
use Rattle.worked_published.proofs.told.opening_is_known.Given as goal

abbrev pub ghosts-opening : goal.ghosts-opening
ghosts-opening g a = record { book = a.opened.seen.book; schema = arc_value a.schema.now; opening = [] }
