use Rattle.std.proofs.Common.{sym, subst}
use Rattle.crossbeam_queue.specs.Fifo.{Forks}
use Rattle.be_mail.specs.Rule.{HandState, no_box, named, idle, Delivers}
use Rattle.be_mail.proofs.Moves.{names}
use Rattle.be_mail.proofs.make.name_mailbox.Goals as goal

pub another-requires-clause-rule : goal.another-requires-clause-rule
another-requires-clause-rule g c =
    let name = g.N.ThisBox.mailbox in
    subst (λ (v : HandState). Forks (Delivers g.S.Post.schema g.S.Post.seats g.S.Post.found) c.args.root.now.id v (named name v) idle) (sym c.requires.pass.1) (names g.S.Post.schema g.S.Post.seats g.S.Post.found c.args.root.now.id no_box name)
