use Rattle.std.proofs.Common.{sym, ap, ◌∙◌, arith, append_assoc, [], length, map, ◌∷◌, ◌++◌}
use Rattle.std.proofs.lemmas.List.{map-append}
use Rattle.be_hub.proofs.Pairs.{gone_through}
use Rattle.be_hub.proofs.jobs.pairs_of.Goals as goal

pub loop-seat-init : goal.loop-seat-init
loop-seat-init g c =
    let seats = c.into_iter-seat-iterator.ensures.into_iter_gives.0 in
    let tasks = c.into_iter-tasks.ensures.rest in
    (tt, tt, sym seats, ap (λ l. map (λ job. job.seat) l) c.new-jobs.ensures.items, sym tasks ∙ ap (λ l. map (λ job. job.task) l ++ c.into_iter-tasks.result.rest.items) (sym c.new-jobs.ensures.items), ap (λ l. length l) seats ∙ (c.requires ∙ sym (ap (λ l. length l) tasks)))

pub unreachable-requires : goal.unreachable-requires
unreachable-requires g c =
    let i = c.loop-seat.invariant in
    let one = ap (λ l. length l) c.in-Some.ensures.steps.0 in
    let none = c.in_default.ensures.cases in
    let long = c.loop-seat.tasks.rest.ok.0 in
    absurd (omega (arith, i.5, one, none, long))

pub loop-seat-preserved : goal.loop-seat-preserved
loop-seat-preserved g c =
    let i = c.loop-seat.invariant in
    let one = ap (λ l. length l) c.in-Some.ensures.steps.0 in
    let task = c.in-Some-next.ensures.items in
    let two = ap (λ l. length l) task in
    let pushed = c.in_ok-push.ensures.items in (
      tt,
      tt,
      i.2 ∙ (ap (λ l. c.loop-seat.yielded ++ l) c.in-Some.ensures.steps.0 ∙ sym (append_assoc c.loop-seat.yielded (c.in-Some.seat ∷ []) c.next.new.self.rest.items)),
      ap (λ l. map (λ job. job.seat) l) pushed ∙ (map-append (λ job. job.seat) c.loop-seat.jobs.items _ ∙ ap (λ l. l ++ c.in-Some.seat ∷ []) i.3),
      i.4
          ∙ (ap (λ l. map (λ job. job.task) c.loop-seat.jobs.items ++ l) task
          ∙ (sym (append_assoc (map (λ job. job.task) c.loop-seat.jobs.items) (c.in-Some-next.task ∷ []) c.next-in-loop-seat.new.self.rest.items)
          ∙ ap (λ l. l ++ c.next-in-loop-seat.new.self.rest.items) (sym (ap (λ l. map (λ job. job.task) l) pushed ∙ map-append (λ job. job.task) c.loop-seat.jobs.items _)))),
      omega (arith, i.5, one, two),
    )

pub returns-clause-seats : goal.returns-clause-seats
returns-clause-seats g c =
    let i = c.loop-seat.invariant in
    i.3 ∙ gone_through c.args.seats.items c.loop-seat.yielded c.loop-seat.seat-iterator.rest.items i.2 (omega (arith, c.loop-seat.seat-iterator.rest.ok.0, c.in-None.ensures.steps.0))

pub returns-clause-tasks : goal.returns-clause-tasks
returns-clause-tasks g c =
    let i = c.loop-seat.invariant in
    gone_through c.args.tasks.items _ c.loop-seat.tasks.rest.items i.4 (omega (arith, i.5, c.loop-seat.seat-iterator.rest.ok.0, c.in-None.ensures.steps.0))
