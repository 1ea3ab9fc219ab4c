use Rattle.be_mail.proofs.Moves.{begins}
use Rattle.be_mail.proofs.make.open_mailbox.Goals as goal

pub ruled-requires-clause-rule : goal.ruled-requires-clause-rule
ruled-requires-clause-rule g c = begins g.S.Post.schema g.S.Post.seats g.S.Post.found c.requires
