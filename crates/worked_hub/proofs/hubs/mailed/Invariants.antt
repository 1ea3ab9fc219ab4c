-- The history is the one that was opened, the schema that of the changes, and the mailboxes are those that were made.
use Rattle.std.specs.Arc.{arc_value}
use Rattle.std.specs.Prelude.{[]}
use Rattle.worked_hub.proofs.hubs.mailed.Given as goal

abbrev pub ghosts-begun-J-Naming : goal.ghosts-begun-J-Naming
ghosts-begun-J-Naming g a = record { book = a.opened.seen.book; schema = arc_value a.schema.now; opening = [] }

abbrev pub ghosts-begun-J-BoxNames : goal.ghosts-begun-J-BoxNames
ghosts-begun-J-BoxNames g a = record { boxes = a.mail }
