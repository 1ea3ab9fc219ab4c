use Rattle.std.proofs.Common.{◌≡◌, ◌+◌, length, map, arith, sym, ap, ◌∙◌, subst}
use Rattle.std.proofs.lemmas.List.{length-map}
use Rattle.be_heat.specs.Seats.{HeatState, AreAllSeats, new_seat, totals}
use Rattle.be_demand.specs.Jobs.{plain}
use Rattle.be_demand.proofs.Gathered.{jobs_new, all_new, all_counted, all_seats, totals_are, demand_is, asked_long}
use Rattle.be_demand.proofs.demand.count_all.Goals as goal

pub count_each-requires-clause-jobs : goal.count_each-requires-clause-jobs
count_each-requires-clause-jobs g c κs within =
    let made = c.in_ok-heat in
    jobs_new made.seats.items c.in_ok-jobs.jobs.items (new_seat made.heat.of made.heat.words) (length c.args.files.now) c.in_ok-jobs.ensures
    (all_new made.heat (1 + c.from-words.result) (length c.args.files.now) made.seats.items made.ensures.heat made.ensures.seats)

pub close-requires : goal.close-requires
close-requires g c =
    let made = c.in_ok-heat in
    let n = length c.args.files.now in
    let files = map plain c.args.files.now in
    let transcripts = map plain c.args.transcripts.now in
    let seats = c.in_ok-seats_of.field-0.items in
    let new = all_new made.heat (1 + c.from-words.result) n made.seats.items made.ensures.heat made.ensures.seats in
    let all = all_counted c.args.schema.now made.heat files transcripts n (new_seat made.heat.of made.heat.words) made.seats.items c.in_ok-jobs.jobs.items c.in_ok-ends.ends.items seats
    new c.in_ok-jobs.ensures c.in_ok-ends.ensures.count c.in_ok-ends.ensures.ends c.in_ok-seats_of.ensures in
    record { seats = subst (λ (h : HeatState). AreAllSeats h seats) (sym c.heat.view_is) (all_seats c.args.schema.now made.heat files transcripts seats (all.many ∙ sym (ap (λ (h : HeatState). h.seats) made.ensures.heat)) all.each) }

pub returns-clause-exact : goal.returns-clause-exact
returns-clause-exact g c = λ sessions over.
    let made = c.in_ok-heat in
    let s = c.args.schema.now in
    let n = length c.args.files.now in
    let files = map plain c.args.files.now in
    let transcripts = map plain c.args.transcripts.now in
    let seats = c.in_ok-seats_of.field-0.items in
    let new = all_new made.heat (1 + c.from-words.result) n made.seats.items made.ensures.heat made.ensures.seats in
    let all = all_counted s made.heat files transcripts n (new_seat made.heat.of made.heat.words) made.seats.items c.in_ok-jobs.jobs.items c.in_ok-ends.ends.items seats
    new c.in_ok-jobs.ensures c.in_ok-ends.ensures.count c.in_ok-ends.ensures.ends c.in_ok-seats_of.ensures in
    let long : made.heat.words ≡ 1 + length s = omega (arith, ap (λ (h : HeatState). h.words) made.ensures.heat, c.from-words.ensures, c.count.ensures.count) in
    demand_is s made.heat.words sessions seats c.in_ok-words.words.items long (c.in_ok-words.ensures.totals ∙ ap (λ (h : HeatState). totals h.words seats) c.heat.view_is)
    (totals_are s made.heat.words files transcripts sessions seats over (all.many ∙ sym (length-map c.args.files.now plain)) (λ i seat file transcript ps at here there. (all.each i seat at).counted file transcript ps here there))

pub returns-clause-long : goal.returns-clause-long
returns-clause-long g c =
    let made = c.in_ok-heat in
    let s = c.args.schema.now in
    let long : made.heat.words ≡ 1 + length s = omega (arith, ap (λ (h : HeatState). h.words) made.ensures.heat, c.from-words.ensures, c.count.ensures.count) in
    asked_long s made.heat.words c.in_ok-seats_of.field-0.items c.in_ok-words.words.items long
    (c.in_ok-words.ensures.totals ∙ ap (λ (h : HeatState). totals h.words c.in_ok-seats_of.field-0.items) c.heat.view_is)
