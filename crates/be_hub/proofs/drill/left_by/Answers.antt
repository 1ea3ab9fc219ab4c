use Rattle.std.proofs.Common.{◌≡◌, ◌++◌, [], ◌∷◌, map, Some, refl, sym, ap, subst, ◌∙◌, append_assoc, rules}
use Rattle.std.specs.List.{All}
use Rattle.std.proofs.lemmas.List.{map-append}
use Rattle.std.proofs.lemmas.List.Elements.{All-pop, All-push}
use Rattle.be_desk.specs.Seats.{IsKeptSeat}
use Rattle.be_hub.proofs.Closing.{was_pushed}
use Rattle.be_hub.proofs.Ends.{map_push}
use Rattle.be_hub.proofs.Shuts.{none_of_both}
use Rattle.be_hub.proofs.drill.left_by.Goals as goal

pub loop-end-preserved : goal.loop-end-preserved
loop-end-preserved g c =
    let i = c.loop-end.invariant in
    let e = c.in-Some-end.end in
    let seats = was_pushed _ _ _ _ c.if-is_err.ensures.negation c.push.ensures.items in
    let texts = was_pushed _ _ _ _ c.if-is_err-2.ensures.negation c.push-else-is_err.ensures.items in (
      tt,
      tt,
      i.2 ∙ (ap (λ l. c.loop-end.yielded ++ l) c.in-Some-end.ensures.steps.0 ∙ sym (append_assoc c.loop-end.yielded (e ∷ []) c.next.new.self.rest.items)),
      map_push (λ x. x.seat) c.loop-end.yielded e c.loop-end.seats.items c.push.new.self.items i.3 seats,
      subst (All (IsKeptSeat g.J.BoxNames.boxes)) (sym seats) (All-push (IsKeptSeat g.J.BoxNames.boxes) c.loop-end.seats.items e.seat i.4 c.session.ensures.kept),
      map_push (λ x. x.transcript.items) c.loop-end.yielded e (map (λ t. t.items) c.loop-end.transcripts.items) (map (λ t. t.items) c.push-else-is_err.new.self.items) i.5
          (ap (map (λ t. t.items)) texts ∙ map-append (λ t. t.items) c.loop-end.transcripts.items (e.transcript ∷ [])),
      (
        (λ none. All-push (λ x. x.seat.glass.shuts ≡ 0) c.loop-end.yielded e (i.6.0 (search rules)) (c.shade.ensures.0 (search rules))),
        (λ all. let parts = All-pop (λ x. x.seat.glass.shuts ≡ 0) (c.loop-end.yielded ++ e ∷ []) c.loop-end.yielded (Some e) refl all in none_of_both c.loop-end.shade c.shade.result c.or-shade.result c.or-shade.ensures (i.6.1 parts.0) (c.shade.ensures.1 parts.1)),
      ),
    )
