use Rattle.std.proofs.Common.{◌+◌, ℕ, ap}
use Rattle.be_board.proofs.LocalWords.{answered_quit}
use Rattle.be_board.proofs.local_copy.LocalCopy.put_bye.Goals as goal

pub returns-in-Ok-clause-answered : goal.returns-in-Ok-clause-answered
returns-in-Ok-clause-answered g c =
    answered_quit c.args.self.now.list c.close.new.self.list (c.len-m.result + 1) (ap (λ (n : ℕ). n + 1) c.len-m.ensures.len) c.in-Ok.ensures.closed
