-- A turn was taken, and what was written was handed on.
use Rattle.std.proofs.Common.{◌≡◌, Bool, ap, ◌∙◌, sym, subst}
use Rattle.be_io.specs.Kept.{KeptByWrite}
use Rattle.be_io.specs.Outside.{LinkState, link_state}
use Rattle.be_io.specs.Source.{SourceState}
use Rattle.be_protocol.specs.Conduct.{Conduct}
use Rattle.be_protocol.specs.Turns.{TurnState, TakesAlike, HandsOver, is_due}
use Rattle.be_protocol.proofs.Took.{handed_so}
use Rattle.be_protocol.proofs.conversing.next_turn.Goals as goal

pub returns-in-Ok-clause-turned : goal.returns-in-Ok-clause-turned
returns-in-Ok-clause-turned g c =
    let m : Conduct g.A.Replier.State = g.A.Replier.conduct (g.A.Replier.kept c.args.replier.now).schema in
    let before : TurnState g.A.Replier.State = record { reader = c.args.reader.now; link = link_state g.L.Source g.L.Sink c.args.link.now; state = g.A.Replier.state c.args.replier.now } in
    let written : LinkState = link_state g.L.Source g.L.Sink c.take_turn.new.link in
    let after : LinkState = link_state g.L.Source g.L.Sink c.hand_over.new.out in
    let still : after.source ≡ written.source =
    sym (g.met.L.Link.writes_leave_the_source c.hand_over.new.out) ∙ (ap (λ (k : KeptByWrite). k.source) c.hand_over.ensures.beside ∙ g.met.L.Link.writes_leave_the_source c.take_turn.new.link) in
    handed_so m before c.take_turn.new.reader written after (g.A.Replier.state c.take_turn.new.replier) c.in-Ok.turn c.hand_over.result c.in-Ok.ensures.turned still c.hand_over.ensures.by
    (subst (λ (ahead : Bool). HandsOver (is_due ahead c.in-Ok.turn.by) written.sink after.sink c.in-Ok.turn.written c.hand_over.result.written) c.has_line.ensures c.hand_over.ensures.handed)

pub returns-in-Ok-clause-alike : goal.returns-in-Ok-clause-alike
returns-in-Ok-clause-alike g c =
    let written : LinkState = link_state g.L.Source g.L.Sink c.take_turn.new.link in
    let after : LinkState = link_state g.L.Source g.L.Sink c.hand_over.new.out in
    let still : after.source ≡ written.source =
    sym (g.met.L.Link.writes_leave_the_source c.hand_over.new.out) ∙ (ap (λ (k : KeptByWrite). k.source) c.hand_over.ensures.beside ∙ g.met.L.Link.writes_leave_the_source c.take_turn.new.link) in
    subst (λ (x : SourceState). TakesAlike c.args.reader.now.taken c.take_turn.new.reader.taken (g.L.Source.taken c.args.link.now) x.taken) (sym still) c.in-Ok.ensures.alike
