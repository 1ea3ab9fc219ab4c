-- Each change is put behind those before it.
use Rattle.std.proofs.Common.{◌≡◌, ◌++◌, ◌∷◌, [], sym, ap, subst, ◌∙◌, append_assoc}
use Rattle.std.proofs.lemmas.List.{map-append}
use Rattle.std.specs.Arc.{arc_value}
use Rattle.be_change.specs.Entries.{entry_of, entries_in}
use Rattle.be_change.specs.History.{IsWellFormed, MayFollow}
use Rattle.be_desk.proofs.Openings.{next_follows}
use Rattle.be_desk.proofs.opening.listed.Goals as goal

pub push-requires-clause-formed : goal.push-requires-clause-formed
push-requires-clause-formed g c =
    let i = c.loop-change.invariant in
    let all = ap (λ l. entries_in (c.loop-change.yielded ++ l)) (sym c.in-Some.ensures.steps.0) ∙ i.2 in
    let f = next_follows c.args.press.now.list (entries_in c.loop-change.yielded) (entry_of (arc_value c.in-Some.change)) (entries_in c.next.new.self.rest.items)
    (sym (map-append (λ x. entry_of (arc_value x)) c.loop-change.yielded (c.in-Some.change ∷ c.next.new.self.rest.items)) ∙ all) c.len.ensures.sound.formed in
    subst IsWellFormed (sym i.3) f.0

pub push-requires-clause-follows : goal.push-requires-clause-follows
push-requires-clause-follows g c =
    let i = c.loop-change.invariant in
    let all = ap (λ l. entries_in (c.loop-change.yielded ++ l)) (sym c.in-Some.ensures.steps.0) ∙ i.2 in
    let f = next_follows c.args.press.now.list (entries_in c.loop-change.yielded) (entry_of (arc_value c.in-Some.change)) (entries_in c.next.new.self.rest.items)
    (sym (map-append (λ x. entry_of (arc_value x)) c.loop-change.yielded (c.in-Some.change ∷ c.next.new.self.rest.items)) ∙ all) c.len.ensures.sound.formed in
    subst (λ h. MayFollow h (entry_of (arc_value c.in-Some.change))) (sym i.3) f.1
