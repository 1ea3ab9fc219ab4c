-- The history is the one that was opened, and the schema that of the changes.
use Rattle.std.specs.Arc.{arc_value}
use Rattle.std.specs.Prelude.{[]}
use Rattle.worked_published.proofs.race.readers_see_what_they_say.Given as goal

abbrev pub ghosts-raced : goal.ghosts-raced
ghosts-raced g a = record { book = a.opened.seen.book; schema = arc_value a.schema.now; opening = [] }
