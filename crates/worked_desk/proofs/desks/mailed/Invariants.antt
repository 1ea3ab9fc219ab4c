-- The history is the one that was opened, the schema that of the changes, and the mailboxes are those that were made.
use Rattle.std.specs.Arc.{arc_value}
use Rattle.be_change.specs.Opening.{opening_of}
use Rattle.worked_desk.proofs.desks.mailed.Given as goal

abbrev pub ghosts-with_desk-J-Naming : goal.ghosts-with_desk-J-Naming
ghosts-with_desk-J-Naming g a = record { book = a.opened.seen.book; schema = arc_value a.schema.now; opening = opening_of a.rows.items }

abbrev pub ghosts-with_desk-J-BoxNames : goal.ghosts-with_desk-J-BoxNames
ghosts-with_desk-J-BoxNames g a = record { boxes = a.mail.now }
