use Rattle.std.proofs.Common.{◌++◌, sym, ap, ◌∙◌, subst}
use Rattle.rtrb.specs.Ring.{sent}
use Rattle.be_base.specs.Lists.{BeginsWith}
use Rattle.be_change.specs.Entries.{entries_in}
use Rattle.be_mirror.proofs.Handing.{handed_may, handed_begins}
use Rattle.be_mirror.proofs.ring.give_all.Goals as goal

pub give-requires : goal.give-requires
give-requires g c =
    let i = c.loop-change.invariant in
    handed_may g.P.Printer.schema (entries_in (sent c.args.giver.now)) (entries_in (sent c.loop-change.giver)) c.args.changes.items c.loop-change.yielded c.next.new.self.rest.items c.in-Some.change
    (i.3 ∙ ap (λ l. c.loop-change.yielded ++ l) c.in-Some.ensures.steps.0) i.4 c.requires.sound

pub returns-in_err-give-clause-begins : goal.returns-in_err-give-clause-begins
returns-in_err-give-clause-begins g c =
    let i = c.loop-change.invariant in
    subst (λ l. BeginsWith (entries_in (sent c.args.giver.now) ++ entries_in c.args.changes.items) l) (ap (λ l. entries_in l) (sym c.in_err-give.ensures.refused))
    (handed_begins (entries_in (sent c.args.giver.now)) (entries_in (sent c.loop-change.giver)) c.args.changes.items c.loop-change.yielded c.loop-change.change-iterator.rest.items i.3 i.4)
