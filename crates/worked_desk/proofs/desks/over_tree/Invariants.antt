-- The mail has the schema of the desk, and as many seats.
use Rattle.std.specs.Arc.{arc_value}
use Rattle.be_mail.specs.Names.{always_found}
use Rattle.worked_desk.proofs.desks.over_tree.Given as goal

abbrev pub ghosts-mailed : goal.ghosts-mailed
ghosts-mailed g a = record { schema = arc_value a.schema.now; seats = a.script.now.seats; found = always_found }
