-- The copy's answer is the board's.
use Rattle.std.proofs.Common.{◌≡◌, false, refl, sym, ap, subst, ◌∙◌}
use Rattle.be_change.specs.History.{has_left, live, is_live_name}
use Rattle.be_change.specs.Requests.{subscribe}
use Rattle.be_board.proofs.LocalWords.{gone_local}
use Rattle.be_board.proofs.LocalStates.{asked_view}
use Rattle.be_board.proofs.local.LocalBoardBoard.subscribe.Goals as goal

pub subscribe-answer-requires-clause-present : goal.subscribe-answer-requires-clause-present
subscribe-answer-requires-clause-present g c = ap (λ v. has_left 1 v.list) c.self.view_is ∙ (sym (gone_local c.args.self.now.list) ∙ c.requires.present)

pub returns : goal.returns
returns g c = record {
  asked = asked_view g.I.Index.schema _ c.args.self.now _ (subscribe c.args.name c.args.conj) c.subscribe-answer.result c.self.view_is c.subscribe-answer.ensures.schema c.subscribe-answer.ensures.answered c.read.ensures.form.formed
      (record { letters = refl; reads = refl; fulls = refl; empties = refl });
  free = λ e. subst (λ v. is_live_name c.args.name (live v.list) ≡ false) c.self.view_is (c.subscribe-answer.ensures.free e);
}
