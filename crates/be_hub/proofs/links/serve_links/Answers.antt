use Rattle.std.proofs.Common.{◌≡◌, length, sym, ap, ◌∙◌, subst, arith, rules}
use Rattle.std.specs.Prelude.{Some}
use Rattle.be_door.specs.Counts.{CountState, after_given, after_end}
use Rattle.be_hub.specs.Links.{LinksServed}
use Rattle.be_hub.proofs.LinksBegun.{none_served, was_given, has_ended, none_given, one_less, few_sessions, some_said}
use Rattle.be_hub.proofs.Visits.{worker_served}
use Rattle.be_io.specs.Outside.{link_state}
use Rattle.be_hub.proofs.links.serve_links.Goals as goal

pub loop-work-init : goal.loop-work-init
loop-work-init g c =
    let new = c.requires.may.1 in
    let count = c.args.job.task in (
      none_served (link_state g.L.Source g.L.Sink) g.J.Naming.schema g.J.BoxNames.boxes c.args.job.seat count count.of _ _ c.new.result.items c.make.result new.1 c.new.ensures.items,
      new.0,
      ap (λ (x : CountState g.row.L.Denot). x.ended) new.1,
      ap (λ (x : CountState g.row.L.Denot). x.given) new.1 ∙ sym (ap (λ (x : CountState g.row.L.Denot). x.back) new.1),
      λ _. c.requires.may.0.0,
      search (rules, arith),
    )

pub accept-requires-clause-of_last : goal.accept-requires-clause-of_last
accept-requires-clause-of_last g c = c.loop-work.invariant.1

pub accept-requires-clause-before_end : goal.accept-requires-clause-before_end
accept-requires-clause-before_end g c = c.loop-work.invariant.2

pub serve_next-work-requires-clause-of_last : goal.serve_next-work-requires-clause-of_last
serve_next-work-requires-clause-of_last g c =
    let i = c.loop-work.invariant in
    let is : c.accept.new.count ≡ after_given c.loop-work.work.count = some_said _ c.in-Ok-Some.field-0 c.in-Ok-Some.link c.in-Ok-Some.field-0-is c.in-Ok-Some.ensures.counted in
    (i.1.0 ∙ ap (λ (x : CountState g.row.L.Denot). Some x.of) (sym is), ap (λ (x : CountState g.row.L.Denot). x.keeps) is ∙ i.1.1)

pub serve_next-work-requires-clause-out : goal.serve_next-work-requires-clause-out
serve_next-work-requires-clause-out g c =
    let i = c.loop-work.invariant in
    let is : c.accept.new.count ≡ after_given c.loop-work.work.count = some_said _ c.in-Ok-Some.field-0 c.in-Ok-Some.link c.in-Ok-Some.field-0-is c.in-Ok-Some.ensures.counted in
    (omega (arith, ap (λ (x : CountState g.row.L.Denot). x.given) is, ap (λ (x : CountState g.row.L.Denot). x.back) is, i.3), c.accept.ensures.sound)

pub serve_next-work-requires-clause-fresh : goal.serve_next-work-requires-clause-fresh
serve_next-work-requires-clause-fresh g c = λ none. c.loop-work.invariant.4 (sym c.reserve.ensures.items ∙ none)

pub serve_next-work-requires-clause-reached : goal.serve_next-work-requires-clause-reached
serve_next-work-requires-clause-reached g c = c.loop-work.invariant.5

pub serve_next-work-requires-clause-number : goal.serve_next-work-requires-clause-number
serve_next-work-requires-clause-number g c =
    let i = c.loop-work.invariant in
    let is : c.accept.new.count ≡ after_given c.loop-work.work.count = some_said _ c.in-Ok-Some.field-0 c.in-Ok-Some.link c.in-Ok-Some.field-0-is c.in-Ok-Some.ensures.counted in
    let sound = c.accept.ensures.sound in
    few_sessions (length g.J.BoxNames.boxes) (length c.loop-work.work.ends.items) c.args.job.seat.session c.loop-work.work.seat.session c.requires.few.1
    (omega (arith, i.0.back, i.3, ap (λ (x : CountState g.row.L.Denot). x.given) is, sound.within, sound.few)) c.requires.may.0.1 i.0.session

pub loop-work-smaller-in-Ok-Some : goal.loop-work-smaller-in-Ok-Some
loop-work-smaller-in-Ok-Some g c =
    let is : c.accept.new.count ≡ after_given c.loop-work.work.count = some_said _ c.in-Ok-Some.field-0 c.in-Ok-Some.link c.in-Ok-Some.field-0-is c.in-Ok-Some.ensures.counted in
    let back = c.serve_next-work.ensures.back in
    let same = c.serve_next-work.ensures.same in
    let sound = c.accept.ensures.sound in
    omega (arith, back.0, back.2, back.3, same.2, sound.within, ap (λ (x : CountState g.row.L.Denot). x.given) is, ap (λ (x : CountState g.row.L.Denot). x.failed) is, ap (λ (x : CountState g.row.L.Denot). x.refused) is, ap (λ (x : CountState g.row.L.Denot). x.links) is)

pub loop-work-preserved-in-Ok-Some : goal.loop-work-preserved-in-Ok-Some
loop-work-preserved-in-Ok-Some g c =
    let i = c.loop-work.invariant in
    let is : c.accept.new.count ≡ after_given c.loop-work.work.count = some_said _ c.in-Ok-Some.field-0 c.in-Ok-Some.link c.in-Ok-Some.field-0-is c.in-Ok-Some.ensures.counted in
    let e = c.serve_next-work.ensures in
    let told = link_state g.L.Source g.L.Sink in
    let first = c.args.job.seat in
    let work = c.loop-work.work in
    let given = was_given told g.J.Naming.schema g.J.BoxNames.boxes first work.seat work.count c.accept.new.count work.ends.items work.tended work.asked i.0 is in (
      e.served first (subst (λ es. LinksServed told g.J.Naming.schema g.J.BoxNames.boxes first work.seat c.accept.new.count es work.tended work.asked) (sym c.reserve.ensures.items) given),
      e.same.0,
      e.same.1 ∙ (ap (λ (x : CountState g.row.L.Denot). x.ended) is ∙ i.2),
      e.back.0 ∙ sym e.back.1,
      λ none. absurd (omega (arith, e.ended, ap length none)),
      e.reached,
    )

pub returns-in-Ok-None : goal.returns-in-Ok-None
returns-in-Ok-None g c =
    let i = c.loop-work.invariant in
    let is : c.accept.new.count ≡ after_end c.loop-work.work.count = c.accept.ensures.ended (search rules) in
    let told = link_state g.L.Source g.L.Sink in
    let first = c.args.job.seat in
    let work = c.loop-work.work in
    let links = subst (λ es. LinksServed told g.J.Naming.schema g.J.BoxNames.boxes first work.seat c.accept.new.count es work.tended work.asked) (sym c.reserve.ensures.items)
    (has_ended told g.J.Naming.schema g.J.BoxNames.boxes first work.seat work.count c.accept.new.count work.ends.items work.tended work.asked i.0 is) in
    worker_served told g.J.Naming.schema g.J.BoxNames.boxes first work.seat c.accept.new.count c.reserve.new.self.items work.tended work.asked links work.between i.5 (g.D.Door.state c.args.door.now)
    (ap (λ (x : CountState g.row.L.Denot). x.given) is ∙ (i.3 ∙ sym (ap (λ (x : CountState g.row.L.Denot). x.back) is)))
    (ap (λ (x : CountState g.row.L.Denot). x.ended) is)
    (i.1.0 ∙ ap (λ (x : CountState g.row.L.Denot). Some x.of) (sym is), ap (λ (x : CountState g.row.L.Denot). x.keeps) is ∙ i.1.1)
    c.accept.ensures.sound

pub loop-work-smaller : goal.loop-work-smaller
loop-work-smaller g c =
    let less = one_less c.loop-work.work.count c.accept.new.count c.accept.result c.in-Err.field-0 c.in-Err.is c.accept.ensures.failed c.accept.ensures.no_memory in
    let sound = c.accept.ensures.sound in
    omega (arith, sound.within, less.3, less.5, less.6)

pub loop-work-preserved : goal.loop-work-preserved
loop-work-preserved g c =
    let i = c.loop-work.invariant in
    let told = link_state g.L.Source g.L.Sink in
    let first = c.args.job.seat in
    let work = c.loop-work.work in
    let less = one_less work.count c.accept.new.count c.accept.result c.in-Err.field-0 c.in-Err.is c.accept.ensures.failed c.accept.ensures.no_memory in (
      subst (λ es. LinksServed told g.J.Naming.schema g.J.BoxNames.boxes first work.seat c.accept.new.count es work.tended work.asked) (sym c.reserve.ensures.items)
          (none_given told g.J.Naming.schema g.J.BoxNames.boxes first work.seat work.count c.accept.new.count work.ends.items work.tended work.asked i.0 c.accept.result c.in-Err.field-0 c.in-Err.is c.accept.ensures.failed c.accept.ensures.no_memory),
      (i.1.0 ∙ ap (λ o. Some o) (sym less.0), less.1 ∙ i.1.1),
      less.2 ∙ i.2,
      less.3 ∙ (i.3 ∙ sym less.4),
      λ none. i.4 (sym c.reserve.ensures.items ∙ none),
      i.5,
    )
