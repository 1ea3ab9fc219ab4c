use Rattle.be_mail.specs.Names.{always_found}
use Rattle.worked_parts.proofs.mail.two_letters_come_in_order.Given as goal

abbrev pub ghosts-passed : goal.ghosts-passed
ghosts-passed g a = record { schema = a.schema.now; seats = 1; found = always_found }
