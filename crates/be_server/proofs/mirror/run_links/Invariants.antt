-- The history is the one that was opened, the schema that of the changes, and no change is there at first.
use Rattle.std.proofs.Common.{[]}
use Rattle.std.specs.Arc.{arc_value}
use Rattle.be_server.proofs.mirror.run_links.Given as goal

abbrev pub ghosts-run_pair : goal.ghosts-run_pair
ghosts-run_pair g a = record { book = a.opened.seen.book; schema = arc_value a.schema; opening = [] }
