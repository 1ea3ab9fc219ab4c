-- The history is the one that was opened, and the schema that of the changes.
use Rattle.std.specs.Arc.{arc_value}
use Rattle.std.specs.Prelude.{[]}
use Rattle.worked_published.proofs.told.pending_is_unseen.Given as goal

abbrev pub ghosts-pending : goal.ghosts-pending
ghosts-pending g a = record { book = a.opened.seen.book; schema = arc_value a.schema.now; opening = [] }
