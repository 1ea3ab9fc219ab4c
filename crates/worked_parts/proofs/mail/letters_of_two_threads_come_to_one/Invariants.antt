use Rattle.be_mail.specs.Names.{always_found}
use Rattle.worked_parts.proofs.mail.letters_of_two_threads_come_to_one.Given as goal

abbrev pub ghosts-with_three_seats : goal.ghosts-with_three_seats
ghosts-with_three_seats g a = record { schema = a.schema.now; seats = 3; found = always_found }
