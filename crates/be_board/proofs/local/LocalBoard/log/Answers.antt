use Rattle.std.proofs.Common.{subst}
use Rattle.be_board.specs.Word.{Keeps}
use Rattle.be_board.specs.LocalCopy.{local_word}
use Rattle.be_board.proofs.LocalWords.{word_kept}
use Rattle.be_board.proofs.local.LocalBoard.log.Goals as goal

pub returns-clause-keeps : goal.returns-clause-keeps
returns-clause-keeps g c =
    subst (λ v. Keeps v.list (local_word v.list)) c.self.view_is (word_kept c.self.inside.copy.list c.read.ensures.form.formed)
