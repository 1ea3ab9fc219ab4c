-- The press takes each of the changes in turn.
use Rattle.std.proofs.Common.{◌++◌, ◌∷◌, [], List, sym, ap, ◌∙◌, subst, append_assoc}
use Rattle.be_base.specs.Lists.{BeginsWith}
use Rattle.be_change.specs.Entries.{entries_in}
use Rattle.be_change.specs.History.{Entry}
use Rattle.be_published.specs.States.{PressState}
use Rattle.be_mirror.proofs.Handing.{handed_may, handed_begins, handed_on, still_seen, still_kept, all_kept}
use Rattle.be_mirror.proofs.printing.PressPrinter.print.Goals as goal

pub put_last-requires : goal.put_last-requires
put_last-requires g c =
    let i = c.loop-change.invariant in
    handed_may g.J.Naming.schema c.args.self.now.list c.loop-change.self.list c.args.changes.items c.loop-change.yielded c.next.new.self.rest.items c.in-Some.change
    (i.2 ∙ ap (λ l. c.loop-change.yielded ++ l) c.in-Some.ensures.steps.0) i.3 c.requires.sound

pub returns-in_err-put_last-clause-begins : goal.returns-in_err-put_last-clause-begins
returns-in_err-put_last-clause-begins g c =
    let i = c.loop-change.invariant in
    subst (λ (l : List Entry). BeginsWith (c.args.self.now.list ++ entries_in c.args.changes.items) l) (sym c.in_err-put_last.ensures.refused)
    (handed_begins c.args.self.now.list c.loop-change.self.list c.args.changes.items c.loop-change.yielded c.loop-change.change-iterator.rest.items i.2 i.3)

pub loop-change-preserved : goal.loop-change-preserved
loop-change-preserved g c =
    let i = c.loop-change.invariant in (
      tt,
      tt,
      i.2 ∙ (ap (λ l. c.loop-change.yielded ++ l) c.in-Some.ensures.steps.0 ∙ sym (append_assoc c.loop-change.yielded (c.in-Some.change ∷ []) c.next.new.self.rest.items)),
      handed_on c.args.self.now.list c.loop-change.self.list c.put_last.new.press.list c.loop-change.yielded c.in-Some.change i.3 c.in_ok-put_last.ensures.put,
      c.put_last.ensures.published ∙ i.4,
    )

pub returns-in_err-put_last-clause-seen : goal.returns-in_err-put_last-clause-seen
returns-in_err-put_last-clause-seen g c =
    let i = c.loop-change.invariant in
    still_seen c.args.self.now.list c.put_last.new.press.list c.args.self.now.published c.put_last.new.press.published (entries_in c.loop-change.yielded, c.in_err-put_last.ensures.refused ∙ i.3) c.requires.seen (c.put_last.ensures.published ∙ i.4)

pub returns-in_err-put_last-clause-kept : goal.returns-in_err-put_last-clause-kept
returns-in_err-put_last-clause-kept g c =
    let i = c.loop-change.invariant in
    still_kept c.args.self.now.list c.put_last.new.press.list c.args.self.now.published c.put_last.new.press.published (entries_in c.loop-change.yielded, c.in_err-put_last.ensures.refused ∙ i.3) c.requires.seen (c.put_last.ensures.published ∙ i.4)

pub returns-in_err-publish-clause-seen : goal.returns-in_err-publish-clause-seen
returns-in_err-publish-clause-seen g c =
    let i = c.loop-change.invariant in
    let same = c.in_err-publish.ensures.published in
    still_seen c.args.self.now.list c.publish.new.self.list c.args.self.now.published c.publish.new.self.published (entries_in c.loop-change.yielded, ap (λ (p : PressState). p.list) same ∙ i.3) c.requires.seen (ap (λ (p : PressState). p.published) same ∙ i.4)

pub returns-in_err-publish-clause-kept : goal.returns-in_err-publish-clause-kept
returns-in_err-publish-clause-kept g c =
    let i = c.loop-change.invariant in
    let same = c.in_err-publish.ensures.published in
    still_kept c.args.self.now.list c.publish.new.self.list c.args.self.now.published c.publish.new.self.published (entries_in c.loop-change.yielded, ap (λ (p : PressState). p.list) same ∙ i.3) c.requires.seen (ap (λ (p : PressState). p.published) same ∙ i.4)

pub returns-in_ok-publish-clause-kept : goal.returns-in_ok-publish-clause-kept
returns-in_ok-publish-clause-kept g c =
    let i = c.loop-change.invariant in
    let all = c.in_ok-publish.ensures.published.0 in
    let list = ap (λ (p : PressState). p.list) all in
    all_kept c.args.self.now.list c.publish.new.self.list c.args.self.now.published c.publish.new.self.published (entries_in c.loop-change.yielded, list ∙ i.3) c.requires.seen (ap (λ (p : PressState). p.published) all ∙ sym list)
