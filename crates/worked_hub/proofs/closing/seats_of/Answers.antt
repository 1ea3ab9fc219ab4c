use Rattle.std.proofs.Common.{◌≡◌, ◌++◌, [], ◌∷◌, sym, ap, subst, ◌∙◌, append_assoc}
use Rattle.std.specs.List.{All}
use Rattle.std.proofs.lemmas.List.Elements.{All-push}
use Rattle.be_desk.specs.Seats.{IsKeptSeat}
use Rattle.be_hub.proofs.Closing.{was_pushed}
use Rattle.be_hub.proofs.Ends.{map_push}
use Rattle.worked_hub.proofs.closing.seats_of.Goals as goal

pub loop-end-preserved : goal.loop-end-preserved
loop-end-preserved g c =
    let i = c.loop-end.invariant in
    let pushed = was_pushed _ _ _ _ c.if-is_err.ensures.negation c.push.ensures.items in (
      tt,
      tt,
      i.2 ∙ (ap (λ l. c.loop-end.yielded ++ l) c.in-Some.ensures.steps.0 ∙ sym (append_assoc c.loop-end.yielded (c.in-Some.end ∷ []) c.next.new.self.rest.items)),
      map_push _ c.loop-end.yielded c.in-Some.end c.loop-end.seats.items c.push.new.self.items i.3 pushed,
      subst (All (IsKeptSeat g.J.BoxNames.boxes)) (sym pushed) (All-push (IsKeptSeat g.J.BoxNames.boxes) c.loop-end.seats.items c.in-Some.end.seat i.4 c.session.ensures.kept),
    )
