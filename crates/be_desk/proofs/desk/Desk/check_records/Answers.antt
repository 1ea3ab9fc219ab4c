use Rattle.std.proofs.Common.{sym, ap, subst, ◌∙◌, ◌≡◌, None, length}
use Rattle.be_desk.specs.Closing.{AreKeptBelow, IsFirstPlace}
use Rattle.be_desk.proofs.Closing.{are_apart, are_kept, is_stray}
use Rattle.be_desk.proofs.desk.Desk.check_records.Goals as goal

pub returns-then-agree : goal.returns-then-agree
returns-then-agree g c =
    let end = c.len.ensures.len ∙ ap length (c.self.invariant.0 ∙ ap (λ d. d.list) c.self.view_is) in
    let all : c.first_unkept-at.result ≡ length c.args.self.now.list = c.if-agree.ensures.0 ∙ end in
    are_kept g.J.BoxNames.boxes c.args.self.now.list c.args.seats.now (are_apart g.J.BoxNames.boxes c.args.seats.now c.requires.all) c.meet_all.ensures
    (subst (λ n. AreKeptBelow n (length g.J.BoxNames.boxes) c.args.self.now.list c.args.seats.now) all c.first_unkept-at.ensures.before)
    (subst (λ n. IsFirstPlace n c.args.seats.now None) all (subst (λ m. IsFirstPlace c.first_unkept-at.result c.args.seats.now m) c.if-agree.ensures.1 c.first_from-made.ensures))

pub returns : goal.returns
returns g c =
    let end = c.len.ensures.len ∙ ap length (c.self.invariant.0 ∙ ap (λ d. d.list) c.self.view_is) in
    is_stray g.J.BoxNames.boxes c.args.self.now.list c.args.seats.now _ (are_apart g.J.BoxNames.boxes c.args.seats.now c.requires.all) c.meet_all.ensures c.first_unkept-at.ensures.within c.first_unkept-at.ensures.before c.first_unkept-at.ensures.here
    (λ all. c.if-agree.ensures (all ∙ sym end)) c.first_from-made.ensures c.in_ok-listed.ensures c.in_ok-change.ensures
