-- A session that knows no more than what is published knows a beginning of it.
use Rattle.std.proofs.Common.{List, subst, ◌∙◌}
use Rattle.std.proofs.lemmas.Result.{on_ok_weaker}
use Rattle.be_base.specs.Lists.{BeginsWith}
use Rattle.be_base.proofs.Beginnings.{BeginsWith-along}
use Rattle.be_change.specs.History.{Entry}
use Rattle.be_mirror.proofs.serving.show.Goals as goal

pub returns-clause-shown : goal.returns-clause-shown
returns-clause-shown g c =
    let published = c.args.feeder.now.published in
    let known = c.learn.new.self.known in
    on_ok_weaker c.within-2.result
    (λ within. BeginsWith-along published known c.args.session.known (subst (λ (h : List Entry). BeginsWith h known) (c.tell-2.ensures ∙ c.press-press.ensures) within) c.learn.ensures.learns.before)
    c.within-2.ensures.within
