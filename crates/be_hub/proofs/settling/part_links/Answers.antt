use Rattle.std.proofs.Common.{◌≡◌, ◌++◌, [], ◌∷◌, map, Some, refl, sym, ap, subst, ◌∙◌, append_assoc, length-append, rules, arith}
use Rattle.std.specs.List.{All}
use Rattle.std.proofs.lemmas.List.{nil_from_length}
use Rattle.std.proofs.lemmas.List.Elements.{All-pop, All-push}
use Rattle.be_desk.specs.Seats.{IsKeptSeat}
use Rattle.be_door.specs.Counts.{with_counts}
use Rattle.be_door.proofs.Gathered.{with_none, sums_on}
use Rattle.be_hub.proofs.Ends.{map_push}
use Rattle.be_hub.proofs.Shuts.{none_of_both}
use Rattle.be_hub.proofs.settling.part_links.Goals as goal

pub loop-end-preserved : goal.loop-end-preserved
loop-end-preserved g c =
    let i = c.loop-end.invariant in
    let e = c.in-Some.end in
    let rest = c.next.new.self.rest.items in
    let steps = c.in-Some.ensures.steps.0 in
    let seats = c.in_ok-put.ensures.seats in
    let counts = c.in_ok-put.ensures.counts in
    let own = c.sums.ensures.sums in
    let sound = c.sums.ensures.sound in
    let added = c.add.ensures in
    let one = length-append c.loop-end.yielded (e ∷ []) in (
      tt,
      tt,
      i.2 ∙ (ap (λ l. c.loop-end.yielded ++ l) steps ∙ sym (append_assoc c.loop-end.yielded (e ∷ []) rest)),
      map_push (λ x. x.seat) c.loop-end.yielded e c.loop-end.seats.items c.put.new.seats.items i.3 seats,
      subst (All (IsKeptSeat g.J.BoxNames.boxes)) (sym seats) (All-push (IsKeptSeat g.J.BoxNames.boxes) c.loop-end.seats.items e.seat i.4 c.session.ensures.kept),
      map_push (λ x. x.count) c.loop-end.yielded e c.loop-end.counts.items c.put.new.counts.items i.5 counts,
      (
        (λ none. All-push (λ x. x.seat.glass.shuts ≡ 0) c.loop-end.yielded e (i.6.0 (search rules)) (c.shade.ensures.0 (search rules))),
        (λ all. let parts = All-pop (λ x. x.seat.glass.shuts ≡ 0) (c.loop-end.yielded ++ e ∷ []) c.loop-end.yielded (Some e) refl all in none_of_both c.loop-end.shade c.shade.result c.or-shade.result c.or-shade.ensures (i.6.1 parts.0) (c.shade.ensures.1 parts.1)),
      ),
      ap (λ s. with_counts s (map (λ end. end.count) rest)) added ∙ (sums_on _ _ _ _ (ap (map (λ end. end.count)) steps) _ _ own ∙ i.7),
      omega (arith, i.8, sound.within, sound.few, one, ap (λ s. s.given) added, ap (λ s. s.failed) added, ap (λ s. s.refused) added, ap (λ s. s.given) own, ap (λ s. s.failed) own, ap (λ s. s.refused) own),
      omega (arith, i.9, sound.out, ap (λ s. s.given) added, ap (λ s. s.back) added, ap (λ s. s.given) own, ap (λ s. s.back) own),
      omega (arith, ap (λ s. s.read_faults) added),
      omega (arith, ap (λ s. s.write_faults) added),
    )

pub returns-clause-sums : goal.returns-clause-sums
returns-clause-sums g c =
    let i = c.loop-end.invariant in
    let rest = c.loop-end.end-iterator.rest in
    let none = nil_from_length rest.items (omega (arith, c.in-None.ensures.steps.0, rest.ok.0)) in
    sym (with_none g.row.L.Denot c.loop-end.sums i.10 i.11) ∙ (ap (λ l. with_counts c.loop-end.sums (map (λ end. end.count) l)) (sym none) ∙ i.7)
