-- The history is the one that was opened, and the schema that of the changes.
use Rattle.std.specs.Arc.{arc_value}
use Rattle.std.specs.Prelude.{[]}
use Rattle.worked_published.proofs.told.untold_glass_reads.Given as goal

abbrev pub ghosts-untold : goal.ghosts-untold
ghosts-untold g a = record { book = a.opened.seen.book; schema = arc_value a.schema.now; opening = [] }
