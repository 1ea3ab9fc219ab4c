use Rattle.be_mail.specs.Names.{always_found}
use Rattle.worked_parts.proofs.mail.a_full_mailbox_gives_the_letter_back.Given as goal

abbrev pub ghosts-passed : goal.ghosts-passed
ghosts-passed g a = record { schema = a.schema.now; seats = 1; found = always_found }
