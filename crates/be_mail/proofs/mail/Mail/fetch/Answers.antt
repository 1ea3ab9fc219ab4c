use Rattle.std.proofs.Common.{◌≡◌, sym, ap, ◌∙◌, subst, set}
use Rattle.be_mail.specs.Letters.{IsFor}
use Rattle.be_mail.specs.Rule.{HandState, with_taken}
use Rattle.be_mail.specs.Passes.{Passes, first_put, passes_of, after_fetch, after_empty, Held}
use Rattle.be_mail.proofs.Hands.{at_own, may_fetch, is_hand, hands_set, stays, fetched_at, held}
use Rattle.be_mail.proofs.mail.Mail.fetch.Goals as goal

pub pop_as-requires-clause-queue : goal.pop_as-requires-clause-queue
pop_as-requires-clause-queue g c =
    let at = at_own c.pass.invariant c.self.invariant (ap (λ (q : Passes). q.boxes) c.pass.view_is ∙ c.requires.passes) c.self.view_is _ _ c.index_mut.ensures.value c.index.ensures in
    (at.box, at.is_hand.home)

pub pop_as-requires-clause-rule : goal.pop_as-requires-clause-rule
pop_as-requires-clause-rule g c =
    let at = at_own c.pass.invariant c.self.invariant (ap (λ (q : Passes). q.boxes) c.pass.view_is ∙ c.requires.passes) c.self.view_is _ _ c.index_mut.ensures.value c.index.ensures in
    may_fetch g.S.Post.schema g.S.Post.seats g.S.Post.found c.index_mut.result.now.id c.pass.inside.seat c.index_mut.result.now at.is_hand

pub invariant_of-pass : goal.invariant_of-pass
invariant_of-pass g c =
    let at = at_own c.pass.invariant c.self.invariant (ap (λ (q : Passes). q.boxes) c.pass.view_is ∙ c.requires.passes) c.self.view_is _ _ c.index_mut.ensures.value c.index.ensures in
    let is = c.in-Some.ensures.rule.0 ∙ ap (λ (v : HandState). with_taken v c.in-Some.posted) at.is_hand.shows in
    hands_set c.pass.inside.seat c.pass.inside.passes.items c.pass.inside.seat c.pop_as.new.pass c.pass.invariant (is_hand c.pass.inside.seat c.pass.inside.seat c.pop_as.new.pass _ _ _ c.in-Some.ensures.queue.0 (c.in-Some.ensures.queue.2 ∙ at.is_hand.home) is)

pub invariant_of-pass-in-None : goal.invariant_of-pass-in-None
invariant_of-pass-in-None g c =
    let at = at_own c.pass.invariant c.self.invariant (ap (λ (q : Passes). q.boxes) c.pass.view_is ∙ c.requires.passes) c.self.view_is _ _ c.index_mut.ensures.value c.index.ensures in
    hands_set c.pass.inside.seat c.pass.inside.passes.items c.pass.inside.seat c.pop_as.new.pass c.pass.invariant
    (is_hand c.pass.inside.seat c.pass.inside.seat c.pop_as.new.pass _ _ _ c.in-None.ensures.queue.0 (c.in-None.ensures.queue.2 ∙ at.is_hand.home) (c.in-None.ensures.rule.0 ∙ at.is_hand.shows))

pub returns-in-Some-clause-fetched : goal.returns-in-Some-clause-fetched
returns-in-Some-clause-fetched g c =
    let schema = g.S.Post.schema in
    let seats = g.S.Post.seats in
    let at = at_own c.pass.invariant c.self.invariant (ap (λ (q : Passes). q.boxes) c.pass.view_is ∙ c.requires.passes) c.self.view_is _ _ c.index_mut.ensures.value c.index.ensures in
    let r = c.in-Some.ensures.rule in
    let x = c.in-Some.posted in
    let is = fetched_at c.pass.inside.seat c.pass.inside.passes.items c.index_mut.result.now c.pop_as.new.pass c.pass.inside.fulls c.pass.inside.empties x at.here c.in-Some.ensures.queue.0 (ap (λ (v : HandState). first_put v.puts) r.0) (ap (λ (v : HandState). v.taken) r.0)
    ∙ ap (λ (q : Passes). after_fetch q x) c.pass.view_is in
    let fit = subst (λ n. IsFor schema seats n x) (ap (λ (v : HandState). v.at.seat) at.is_hand.shows ∙ ap (λ (q : Passes). q.seat) c.pass.view_is) r.1 in
    let both = subst (λ y. (passes_of c.pass.inside.seat (set c.pass.inside.passes.items c.pass.inside.seat c.pop_as.new.pass) c.pass.inside.fulls c.pass.inside.empties ≡ after_fetch c.args.pass.now y) × IsFor schema seats c.args.pass.now.seat y) (sym c.posted.view_is) (is, fit) in
    (c.posted.inside.from, both.0, both.1)

pub returns-in-None-clause-counted : goal.returns-in-None-clause-counted
returns-in-None-clause-counted g c =
    let at = at_own c.pass.invariant c.self.invariant (ap (λ (q : Passes). q.boxes) c.pass.view_is ∙ c.requires.passes) c.self.view_is _ _ c.index_mut.ensures.value c.index.ensures in
    stays c.pass.inside.seat c.pass.inside.passes.items c.pass.inside.seat c.index_mut.result.now c.pop_as.new.pass c.pass.inside.fulls _ at.here c.in-None.ensures.queue.0 c.in-None.ensures.rule.0
    ∙ ap (λ n. passes_of c.pass.inside.seat c.pass.inside.passes.items c.pass.inside.fulls n) c.saturating_add-pass-inside.ensures
    ∙ ap after_empty c.pass.view_is

pub returns-in-None-clause-empty : goal.returns-in-None-clause-empty
returns-in-None-clause-empty g c =
    let schema = g.S.Post.schema in
    let seats = g.S.Post.seats in
    let at = at_own c.pass.invariant c.self.invariant (ap (λ (q : Passes). q.boxes) c.pass.view_is ∙ c.requires.passes) c.self.view_is _ _ c.index_mut.ensures.value c.index.ensures in
    subst (λ (q : Passes). Held schema seats g.S.Post.found q q.seat 0) c.pass.view_is
    (held schema seats g.S.Post.found c.pass.inside.seat c.pass.inside.passes.items c.pass.inside.seat c.index_mut.result.now c.pass.inside.fulls c.pass.inside.empties 0 at.here at.is_hand c.in-None.ensures.rule.1)

pub returns-in-Some-clause-same : goal.returns-in-Some-clause-same
returns-in-Some-clause-same g c = let is = returns-in-Some-clause-fetched g c in (ap (λ (q : Passes). q.boxes) is.1, ap (λ (q : Passes). q.seat) is.1)

pub returns-in-None-clause-same : goal.returns-in-None-clause-same
returns-in-None-clause-same g c = let is = returns-in-None-clause-counted g c in (ap (λ (q : Passes). q.boxes) is, ap (λ (q : Passes). q.seat) is)
