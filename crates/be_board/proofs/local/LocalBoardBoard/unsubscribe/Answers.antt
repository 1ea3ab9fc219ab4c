-- The copy's answer is the board's.
use Rattle.std.proofs.Common.{refl, sym, ap, ◌∙◌}
use Rattle.be_change.specs.History.{has_left}
use Rattle.be_change.specs.Requests.{unsubscribe}
use Rattle.be_board.proofs.LocalWords.{gone_local}
use Rattle.be_board.proofs.LocalStates.{asked_view}
use Rattle.be_board.proofs.local.LocalBoardBoard.unsubscribe.Goals as goal

pub unsubscribe-answer-requires : goal.unsubscribe-answer-requires
unsubscribe-answer-requires g c = record { present = ap (λ v. has_left 1 v.list) c.self.view_is ∙ (sym (gone_local c.args.self.now.list) ∙ c.requires.present) }

pub returns : goal.returns
returns g c = record {
  asked = asked_view g.I.Index.schema _ c.args.self.now _ (unsubscribe c.args.name.now) c.unsubscribe-answer.result c.self.view_is c.unsubscribe-answer.ensures.schema c.unsubscribe-answer.ensures.answered c.read.ensures.form.formed
      (record { letters = refl; reads = refl; fulls = refl; empties = refl });
}
