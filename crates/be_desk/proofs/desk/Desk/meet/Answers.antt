use Rattle.std.proofs.Common.{inl, inr, sym, ap, subst, ◌∙◌, ◌++◌, length}
use Rattle.std.specs.List.{All}
use Rattle.be_base.specs.Lists.{BeginsWith}
use Rattle.be_desk.specs.Seats.{list_in, IsOfSeat}
use Rattle.be_desk.proofs.Closing.{beside}
use Rattle.be_desk.proofs.desk.Desk.meet.Goals as goal

pub returns-then-len : goal.returns-then-len
returns-then-len g c =
    let whole = c.whole-whole.ensures ∙ ap (λ d. d.list) c.self.view_is in
    let made = list_in c.seat.inside.made in
    let begins = c.begins.ensures in
    let more : BeginsWith c.args.self.now.list made = (begins.0, sym whole ∙ (begins.1 ∙ ap (λ o. list_in o ++ begins.0) (sym c.in-Some.is))) in
    beside g.J.BoxNames.boxes c.args.self.now.list made c.seat.inside.places.items c.args.seat.now c.seat.invariant.0 (sym (ap (λ s. s.own) c.seat.view_is)) (inl more)
    (subst (λ s. All (IsOfSeat (length g.J.BoxNames.boxes) s.passes.seat s.session) s.own) c.seat.view_is c.seat.invariant.1.kept.own_all)

pub returns-else-len : goal.returns-else-len
returns-else-len g c =
    let whole = c.whole-whole.ensures ∙ ap (λ d. d.list) c.self.view_is in
    let made = list_in c.seat.inside.made in
    let begins = c.begins-else-len.ensures in
    let more : BeginsWith made c.args.self.now.list = (begins.0, ap list_in c.in-Some.is ∙ (begins.1 ∙ ap (λ h. h ++ begins.0) whole)) in
    beside g.J.BoxNames.boxes c.args.self.now.list made c.seat.inside.places.items c.args.seat.now c.seat.invariant.0 (sym (ap (λ s. s.own) c.seat.view_is)) (inr more)
    (subst (λ s. All (IsOfSeat (length g.J.BoxNames.boxes) s.passes.seat s.session) s.own) c.seat.view_is c.seat.invariant.1.kept.own_all)
