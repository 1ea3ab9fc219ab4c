use Rattle.worked_parts.proofs.mail.with_three_seats.Given as goal

abbrev pub ghosts-exchanged : goal.ghosts-exchanged
ghosts-exchanged g a = record { boxes = a.mail }
