-- One more link was served, and its session is that of the link alone.
use Rattle.std.proofs.Common.{◌≡◌, ◌+◌, ◌<◌, ◌≤◌, true, false, length, sym, ◌∙◌, subst, arith, rules}
use Rattle.be_door.specs.Counts.{CountState, after_back}
use Rattle.be_hub.specs.Links.{LinksServed}
use Rattle.be_hub.proofs.LinksBegun.{some_from}
use Rattle.be_hub.proofs.LinksServed.{enters, one_served}
use Rattle.be_io.specs.Outside.{link_state}
use Rattle.be_hub.proofs.links.serve_next.Goals as goal

pub returns-clause-served : goal.returns-clause-served
returns-clause-served g c = λ first l.
    let told = link_state g.L.Source g.L.Sink in
    let s = g.J.Naming.schema in
    let boxes = g.J.BoxNames.boxes in
    let ends = c.args.work.ends.items in
    let sound = c.requires.out.1 in
    let visit = c.serve_session-seat.result in
    let empty : c.is_empty.result ≡ true → length ends ≡ 0 = λ yes. search (rules, arith) in
    let some : c.is_empty.result ≡ false → 0 < length ends = λ no. let k = some_from _ (sym c.is_empty.ensures ∙ no) in omega (arith, k, c.args.work.ends.ok.0) in
    let ent = enters s (length boxes) (length ends) first c.args.work.seat c.next_seat-seat.result c.is_empty.result empty some c.requires.some l.session c.next_seat-seat.ensures.entered in
    let swept : length ends + 1 ≤ c.publish_held.new.tended = omega (arith, c.publish_held.ensures, l.swept, l.back, c.requires.out.0, sound.within, sound.few) in
    let served = one_served told s boxes first c.args.work.seat c.next_seat-seat.result visit.seat c.args.work.count ends c.session-session.result visit.link (told c.args.link) visit.end c.args.work.tended c.args.work.asked visit.asked
    l sound ent c.session-session.ensures.session c.session-session.ensures.kept c.requires.unused c.serve_session-seat.ensures.served c.publish_held.new.tended swept in
    subst (λ (x : CountState g.row.L.Denot). LinksServed told s boxes first visit.seat x c.push_reserved.new.self.items c.publish_held.new.tended visit.asked) (sym c.give_back.ensures.back)
    (subst (λ es. LinksServed told s boxes first visit.seat (after_back c.args.work.count c.session-session.result visit.link (told visit.link)) es c.publish_held.new.tended visit.asked) (sym c.push_reserved.ensures.items) served)
