use Rattle.std.proofs.Common.{Some, None, sym, ap, ◌∙◌}
use Rattle.be_cover.proofs.Telling.{void_event, untold_event, none_is_covered, some_is_apart}
use Rattle.be_cover.proofs.events.apart.Goals as goal

pub returns-then-branch-clause-exact : goal.returns-then-branch-clause-exact
returns-then-branch-clause-exact c =
    void_event c.args.s.now c.args.q.now c.args.r.now (sym c.in_ok-is_void.ensures ∙ c.if-branch.true)

pub returns-then-branch-clause-covered : goal.returns-then-branch-clause-covered
returns-then-branch-clause-covered c =
    none_is_covered c.args.s.now c.args.q.now c.args.r.now None c.requires.first c.requires.other (returns-then-branch-clause-exact c)

pub returns-in-None-clause-exact : goal.returns-in-None-clause-exact
returns-in-None-clause-exact c =
    untold_event c.args.s.now c.args.q.now c.args.r.now None (sym c.in_ok-is_void.ensures ∙ c.if-branch.false) (sym c.in-None.is ∙ c.in_ok-telling.ensures)

pub returns-in-None-clause-covered : goal.returns-in-None-clause-covered
returns-in-None-clause-covered c =
    none_is_covered c.args.s.now c.args.q.now c.args.r.now None c.requires.first c.requires.other (returns-in-None-clause-exact c)

pub returns-in_ok-event_at-in-Some-clause-exact : goal.returns-in_ok-event_at-in-Some-clause-exact
returns-in_ok-event_at-in-Some-clause-exact c =
    ap (λ e. Some e) c.in_ok-event_at-in-Some.ensures
    ∙ untold_event c.args.s.now c.args.q.now c.args.r.now (Some c.in-Some.a) (sym c.in_ok-is_void.ensures ∙ c.if-branch.false) (sym c.in-Some.is ∙ c.in_ok-telling.ensures)

pub returns-in_ok-event_at-in-Some-clause-covered : goal.returns-in_ok-event_at-in-Some-clause-covered
returns-in_ok-event_at-in-Some-clause-covered c =
    none_is_covered c.args.s.now c.args.q.now c.args.r.now (Some c.in_ok-event_at-in-Some.field-0) c.requires.first c.requires.other (returns-in_ok-event_at-in-Some-clause-exact c)

pub returns-in_ok-event_at-in-Some-clause-apart : goal.returns-in_ok-event_at-in-Some-clause-apart
returns-in_ok-event_at-in-Some-clause-apart c =
    some_is_apart c.args.s.now c.args.q.now c.args.r.now c.in_ok-event_at-in-Some.field-0 c.requires.first c.requires.other (returns-in_ok-event_at-in-Some-clause-exact c)
