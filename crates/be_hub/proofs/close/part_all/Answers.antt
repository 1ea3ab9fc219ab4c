use Rattle.std.proofs.Common.{◌++◌, [], ◌∷◌, map, sym, ap, subst, ◌∙◌, arith, append_assoc}
use Rattle.std.specs.List.{All}
use Rattle.std.proofs.lemmas.List.{map-append}
use Rattle.std.proofs.lemmas.List.Elements.{All-nil, All-push}
use Rattle.be_mail.specs.Passes.{AreOfSeat}
use Rattle.be_desk.specs.Seats.{SeatState}
use Rattle.be_hub.specs.Closing.{IsShown}
use Rattle.be_hub.proofs.Pairs.{gone_through}
use Rattle.be_hub.proofs.Closing.{was_pushed}
use Rattle.be_hub.proofs.close.part_all.Goals as goal

pub loop-seat-init : goal.loop-seat-init
loop-seat-init g c = (tt, tt, sym c.into_iter-seat-iterator.ensures.into_iter_gives.0, c.new-all.ensures.items, All-nil (IsShown g.J.BoxNames.boxes c.args.desk.now.published), subst (All AreOfSeat) (sym c.new-all.ensures.items) (All-nil AreOfSeat))

pub loop-seat-preserved : goal.loop-seat-preserved
loop-seat-preserved g c =
    let i = c.loop-seat.invariant in
    let pushed = was_pushed _ _ _ _ c.if-is_err.ensures.negation c.push.ensures.items in (
      tt,
      tt,
      i.2 ∙ (ap (λ l. c.loop-seat.yielded ++ l) c.in-Some.ensures.steps.0 ∙ sym (append_assoc c.loop-seat.yielded (c.in-Some.seat ∷ []) c.next.new.self.rest.items)),
      pushed
          ∙ (ap (λ l. l ++ c.in-Ok.passes ∷ []) i.3
          ∙ (ap (λ x. map (λ (s : SeatState). s.passes) c.loop-seat.yielded ++ x ∷ []) c.in-Ok.ensures.passes ∙ sym (map-append (λ (s : SeatState). s.passes) c.loop-seat.yielded (c.in-Some.seat ∷ [])))),
      All-push (IsShown g.J.BoxNames.boxes c.args.desk.now.published) c.loop-seat.yielded c.in-Some.seat i.4 c.in-Ok.ensures.shown,
      subst (All AreOfSeat) (sym pushed) (All-push AreOfSeat c.loop-seat.all.items c.in-Ok.passes i.5 c.in-Ok.ensures.form),
    )

pub returns-clause-passes : goal.returns-clause-passes
returns-clause-passes g c =
    let i = c.loop-seat.invariant in
    i.3 ∙ ap (λ l. map (λ (s : SeatState). s.passes) l) (gone_through c.args.seats.items c.loop-seat.yielded c.loop-seat.seat-iterator.rest.items i.2 (omega (arith, c.loop-seat.seat-iterator.rest.ok.0, c.in-None.ensures.steps.0)))

pub returns-clause-shown : goal.returns-clause-shown
returns-clause-shown g c =
    let i = c.loop-seat.invariant in
    subst (All (IsShown g.J.BoxNames.boxes c.args.desk.now.published))
    (gone_through c.args.seats.items c.loop-seat.yielded c.loop-seat.seat-iterator.rest.items i.2 (omega (arith, c.loop-seat.seat-iterator.rest.ok.0, c.in-None.ensures.steps.0))) i.4
