use Rattle.std.proofs.Common.{◌≡◌, ◌++◌, [], ◌∷◌, length, map, arith, sym, ap, ◌∙◌, append_assoc}
use Rattle.std.proofs.lemmas.List.{map-append}
use Rattle.be_demand.specs.Jobs.{seat_in}
use Rattle.be_demand.proofs.Gathered.{places_more}
use Rattle.be_demand.proofs.demand.jobs_of.Goals as goal

pub loop-seat-preserved : goal.loop-seat-preserved
loop-seat-preserved c =
    let i = c.loop-seat.invariant in
    let pushed = c.in_ok-push.ensures.items in
    let place : c.len-place.result ≡ length c.loop-seat.jobs.items = omega (arith, c.len-place.ensures, c.loop-seat.jobs.ok.0) in (
      tt,
      tt,
      i.2 ∙ (ap (λ l. c.loop-seat.yielded ++ l) c.in-Some.ensures.steps.0 ∙ sym (append_assoc c.loop-seat.yielded (c.in-Some.seat ∷ []) c.next.new.self.rest.items)),
      ap (map seat_in) pushed ∙ (map-append seat_in c.loop-seat.jobs.items _ ∙ ap (λ l. l ++ c.in-Some.seat ∷ []) i.3),
      places_more c.loop-seat.jobs.items c.push.new.self.items _ pushed place i.4,
    )
