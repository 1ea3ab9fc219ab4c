use Rattle.be_mail.specs.Mailbox.{box_id}
use Rattle.be_mail.specs.Boxes.{name_of}
use Rattle.be_mail.proofs.make.open_mailbox.Given as goal

abbrev pub ghosts-name_mailbox : goal.ghosts-name_mailbox
ghosts-name_mailbox g a = record { mailbox = box_id (name_of a.mailbox.now) a.place }
