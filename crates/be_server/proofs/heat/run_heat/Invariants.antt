-- The mail has the schema of the hub, and a mailbox a file.
use Rattle.std.specs.Prelude.{length}
use Rattle.std.specs.Arc.{arc_value}
use Rattle.be_mail.specs.Names.{always_found}
use Rattle.be_server.proofs.heat.run_heat.Given as goal

abbrev pub ghosts-mailed : goal.ghosts-mailed
ghosts-mailed g a = record { schema = arc_value a.schema.now; seats = length a.scripts.items; found = always_found }
