use Rattle.std.proofs.Common.{sym, ap, ◌∙◌}
use Rattle.be_change.specs.History.{has_left}
use Rattle.be_board.proofs.LocalWords.{gone_local}
use Rattle.be_board.proofs.local.LocalBoardBoard.left.Goals as goal

pub returns-clause-left : goal.returns-clause-left
returns-clause-left g c = c.gone.ensures ∙ (ap (λ v. has_left 1 v.list) c.self.view_is ∙ sym (gone_local c.args.self.now.list))
