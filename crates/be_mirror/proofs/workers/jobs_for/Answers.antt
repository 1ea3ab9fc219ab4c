use Rattle.std.proofs.Common.{◌≤◌, ◌+◌, ◌++◌, ◌∷◌, [], length, refl, sym, ap, ◌∙◌, subst, append_assoc, length-append, arith}
use Rattle.std.specs.List.{All}
use Rattle.std.proofs.lemmas.List.Elements.{All-head, All-tail, All-nil, All-push}
use Rattle.be_base.specs.declared.limits.TheConstants.{SEATS}
use Rattle.be_door.specs.Door.{IsNew}
use Rattle.be_mirror.proofs.workers.jobs_for.Goals as goal

pub loop-glass-init : goal.loop-glass-init
loop-glass-init g c =
    let glasses = c.into_iter-glass-iterator.ensures.into_iter_gives.0 in
    let counts = c.into_iter-counts.ensures.rest in
    let jobs = c.new-jobs.ensures.items in
    let new = IsNew (g.D.Door.state c.args.door.now) in (
      tt,
      tt,
      sym glasses,
      ap (λ l. length l) jobs,
      refl,
      subst (All (λ job. (job.worker ≤ SEATS) × new job.count)) (sym jobs) (All-nil (λ job. (job.worker ≤ SEATS) × new job.count)),
      subst (All new) (sym counts) c.requires.new,
      ap (λ l. length l) glasses ∙ (c.requires.count ∙ sym (ap (λ l. length l) counts)),
    )

pub unreachable-requires : goal.unreachable-requires
unreachable-requires g c =
    let i = c.loop-glass.invariant in
    let one = ap (λ l. length l) c.in-Some.ensures.steps.0 in
    let none = c.in_default.ensures.cases in
    let long = c.loop-glass.counts.rest.ok.0 in
    absurd (omega (arith, i.7, one, none, long))

pub overflow_add-worker : goal.overflow_add-worker
overflow_add-worker g c =
    let i = c.loop-glass.invariant in
    let all = ap (λ l. length l) i.2 ∙ length-append c.loop-glass.yielded c.loop-glass.glass-iterator.rest.items in
    omega (arith, i.4, all, c.requires.few)

pub loop-glass-preserved : goal.loop-glass-preserved
loop-glass-preserved g c =
    let i = c.loop-glass.invariant in
    let one = ap (λ l. length l) c.in-Some.ensures.steps.0 in
    let count = c.in-Some-next.ensures.items in
    let two = ap (λ l. length l) count in
    let new = IsNew (g.D.Door.state c.args.door.now) in
    let counts = subst (All new) count i.6 in
    let yields = length-append c.loop-glass.yielded (c.in-Some.glass ∷ []) in
    let all = ap (λ l. length l) i.2 ∙ length-append c.loop-glass.yielded c.loop-glass.glass-iterator.rest.items in
    let pushed = c.in_ok-push.ensures.items in (
      tt,
      tt,
      i.2 ∙ (ap (λ l. c.loop-glass.yielded ++ l) c.in-Some.ensures.steps.0 ∙ sym (append_assoc c.loop-glass.yielded (c.in-Some.glass ∷ []) c.next.new.self.rest.items)),
      ap (λ l. length l) pushed ∙ (length-append c.loop-glass.jobs.items _ ∙ (ap (λ n. n + 1) i.3 ∙ sym yields)),
      omega (arith, i.4, yields),
      subst (All (λ job. (job.worker ≤ SEATS) × new job.count)) (sym pushed)
          (All-push (λ job. (job.worker ≤ SEATS) × new job.count) c.loop-glass.jobs.items _ i.5 (omega (arith, i.4, all, one, c.requires.few), All-head new c.in-Some-next.count c.next-in-loop-glass.new.self.rest.items counts)),
      All-tail new c.in-Some-next.count c.next-in-loop-glass.new.self.rest.items counts,
      omega (arith, i.7, one, two),
    )

pub returns-clause-count : goal.returns-clause-count
returns-clause-count g c =
    let i = c.loop-glass.invariant in
    let all = ap (λ l. length l) i.2 ∙ length-append c.loop-glass.yielded c.loop-glass.glass-iterator.rest.items in
    omega (arith, i.3, all, c.loop-glass.glass-iterator.rest.ok.0, c.in-None.ensures.steps.0)

pub returns-clause-new : goal.returns-clause-new
returns-clause-new g c = c.loop-glass.invariant.5
