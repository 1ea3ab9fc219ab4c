-- The history is the one that was opened, the schema that of the changes, the list begins with the rows, and the mailboxes are
-- those that were made.
use Rattle.std.specs.Arc.{arc_value}
use Rattle.be_change.specs.Opening.{opening_of}
use Rattle.be_server.proofs.drill.mailed.Given as goal

abbrev pub ghosts-seated-J-Naming : goal.ghosts-seated-J-Naming
ghosts-seated-J-Naming g a = record { book = a.opened.seen.book; schema = arc_value a.schema.now; opening = opening_of a.rows.items }

abbrev pub ghosts-seated-J-BoxNames : goal.ghosts-seated-J-BoxNames
ghosts-seated-J-BoxNames g a = record { boxes = a.mail }
