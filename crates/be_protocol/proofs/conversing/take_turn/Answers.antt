-- A line was read, and answered.
use Rattle.std.proofs.Common.{◌≡◌, ℕ, ◌++◌, List, sym, ap, ◌∙◌, subst}
use Rattle.be_io.specs.Told.{WhereTold}
use Rattle.be_io.specs.Kept.{KeptByRead, KeptByWrite}
use Rattle.be_io.specs.Lines as line
use Rattle.be_io.specs.Outside.{LinkState, link_state}
use Rattle.be_io.specs.Reader.{GivesLine, FitsLine}
use Rattle.be_io.specs.declared.lines.Line.{Line}
use Rattle.be_io.specs.declared.lines.Line.TheVariants.{Text, Long, End}
use Rattle.be_protocol.specs.Conduct.{Conduct, GivesReply}
use Rattle.be_protocol.specs.Turns.{TurnState}
use Rattle.be_protocol.proofs.Took.{took_text, took_long, answered_so, was_going}
use Rattle.be_protocol.proofs.conversing.take_turn.Goals as goal

pub returns-in-Ok-Text-clause-turned : goal.returns-in-Ok-Text-clause-turned
returns-in-Ok-Text-clause-turned g c =
    let m : Conduct g.A.Replier.State = g.A.Replier.conduct (g.A.Replier.kept c.args.replier.now).schema in
    let before : TurnState g.A.Replier.State = record { reader = c.args.reader.now; link = link_state g.L.Source g.L.Sink c.args.link.now; state = g.A.Replier.state c.args.replier.now } in
    let read : LinkState = link_state g.L.Source g.L.Sink c.next.new.src in
    let written : LinkState = link_state g.L.Source g.L.Sink c.answer_text.new.out in
    let after : TurnState g.A.Replier.State = record { reader = c.next.new.self; link = read; state = before.state } in
    let quiet : read.sink ≡ before.link.sink =
    sym (g.met.L.Link.reads_leave_the_sink c.next.new.src) ∙ (ap (λ (k : KeptByRead). k.sink) c.next.ensures.beside ∙ g.met.L.Link.reads_leave_the_sink c.args.link.now) in
    let still : written.source ≡ read.source =
    sym (g.met.L.Link.writes_leave_the_source c.answer_text.new.out) ∙ (ap (λ (k : KeptByWrite). k.source) c.answer_text.ensures.beside ∙ g.met.L.Link.writes_leave_the_source c.next.new.src) in
    let is : c.in-Ok-Text.field-0 ≡ Text = c.in-Ok-Text.field-0-is in
    let other : c.in-Ok-Text.field-0 ≡ End → ⊥ = λ (e : c.in-Ok-Text.field-0 ≡ End). let f : Text ≡ End = sym is ∙ e in cc in
    let going = was_going before.reader.ended c.in-Ok-Text.field-0 other (λ e. let f = (c.in-Ok-Text.ensures.at_end c.requires.reads.sound e).0 in cc) in
    let took = took_text before after going
    (subst (λ (l : Line). WhereTold before.link.source.left after.link.source.left (λ b a. GivesLine after.reader l (before.reader.unread ++ b) (after.reader.unread ++ a))) is (c.in-Ok-Text.ensures.line going))
    (record { limit = c.in-Ok-Text.ensures.limit ∙ c.requires.reads.limit; sound = c.in-Ok-Text.ensures.sound.0 }) c.in-Ok-Text.ensures.buffered c.in-Ok-Text.ensures.sound.1 in
    answered_so m before c.next.new.self read written (g.A.Replier.state c.answer_text.new.replier) (line.text c.next.new.self.text) c.answer_text.result took quiet still
    (subst (λ (bytes : List ℕ). GivesReply m (m.asks (line.text bytes)) before.state (g.A.Replier.state c.answer_text.new.replier) read.sink written.sink c.answer_text.result.by c.answer_text.result.written) c.text.ensures c.answer_text.ensures.gives)

pub returns-in-Ok-Long-clause-turned : goal.returns-in-Ok-Long-clause-turned
returns-in-Ok-Long-clause-turned g c =
    let m : Conduct g.A.Replier.State = g.A.Replier.conduct (g.A.Replier.kept c.args.replier.now).schema in
    let before : TurnState g.A.Replier.State = record { reader = c.args.reader.now; link = link_state g.L.Source g.L.Sink c.args.link.now; state = g.A.Replier.state c.args.replier.now } in
    let read : LinkState = link_state g.L.Source g.L.Sink c.next.new.src in
    let written : LinkState = link_state g.L.Source g.L.Sink c.refuse_long.new.out in
    let after : TurnState g.A.Replier.State = record { reader = c.next.new.self; link = read; state = before.state } in
    let quiet : read.sink ≡ before.link.sink =
    sym (g.met.L.Link.reads_leave_the_sink c.next.new.src) ∙ (ap (λ (k : KeptByRead). k.sink) c.next.ensures.beside ∙ g.met.L.Link.reads_leave_the_sink c.args.link.now) in
    let still : written.source ≡ read.source =
    sym (g.met.L.Link.writes_leave_the_source c.refuse_long.new.out) ∙ (ap (λ (k : KeptByWrite). k.source) c.refuse_long.ensures.beside ∙ g.met.L.Link.writes_leave_the_source c.next.new.src) in
    let len = c.in-Ok-Long.field-0-0 in
    let is : c.in-Ok-Long.field-0 ≡ Long len = c.in-Ok-Long.field-0-is in
    let other : c.in-Ok-Long.field-0 ≡ End → ⊥ = λ (e : c.in-Ok-Long.field-0 ≡ End). let f : Long len ≡ End = sym is ∙ e in cc in
    let going = was_going before.reader.ended c.in-Ok-Long.field-0 other (λ e. let f = (c.in-Ok-Long.ensures.at_end c.requires.reads.sound e).0 in cc) in
    let took = took_long before after len going
    (subst (λ (l : Line). WhereTold before.link.source.left after.link.source.left (λ b a. GivesLine after.reader l (before.reader.unread ++ b) (after.reader.unread ++ a))) is (c.in-Ok-Long.ensures.line going))
    (subst (FitsLine after.reader) is c.in-Ok-Long.ensures.fits)
    (record { limit = c.in-Ok-Long.ensures.limit ∙ c.requires.reads.limit; sound = c.in-Ok-Long.ensures.sound.0 }) c.in-Ok-Long.ensures.buffered c.in-Ok-Long.ensures.sound.1 in
    answered_so m before c.next.new.self read written (g.A.Replier.state c.refuse_long.new.replier) (line.long len) c.refuse_long.result took quiet still (c.refuse_long.ensures.gives len)
