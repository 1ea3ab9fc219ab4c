use Rattle.std.proofs.Common.{sym, ap, ◌∙◌, subst}
use Rattle.crossbeam_queue.specs.Fifo as fifo
use Rattle.crossbeam_queue.specs.Passes.{view}
use Rattle.be_base.specs.declared.limits.TheConstants.{BOX_LETTERS}
use Rattle.be_model.specs.Letters.{plain_letter}
use Rattle.be_mail.specs.Letters.{posting}
use Rattle.be_mail.specs.Rule.{HandState, Sees, with_put}
use Rattle.be_mail.specs.Passes.{Passes, first_put, passes_of, after_put, after_full, Held}
use Rattle.be_mail.proofs.Hands.{at_session, may_put, is_hand, hands_set, stays, put_at, held}
use Rattle.be_mail.proofs.mail.Mail.put.Goals as goal

pub push_as-requires-clause-queue : goal.push_as-requires-clause-queue
push_as-requires-clause-queue g c =
    let at = at_session c.pass.invariant c.self.invariant (ap (λ (q : Passes). q.boxes) c.pass.view_is ∙ c.requires.passes) c.self.view_is c.args.to _ _ _ c.requires.to c.index_mut.ensures.value c.index.ensures in
    (at.box, at.is_hand.home)

pub push_as-requires-clause-rule : goal.push_as-requires-clause-rule
push_as-requires-clause-rule g c =
    let at = at_session c.pass.invariant c.self.invariant (ap (λ (q : Passes). q.boxes) c.pass.view_is ∙ c.requires.passes) c.self.view_is c.args.to _ _ _ c.requires.to c.index_mut.ensures.value c.index.ensures in
    may_put g.S.Post.schema g.S.Post.seats g.S.Post.found _ c.index_mut.result.now.id c.pass.inside.seat c.args.to c.index_mut.result.now (plain_letter c.args.letter) at.room at.is_hand
    (record { from = at.from; fit = c.requires.fit; here = sym c.requires.to })

pub invariant_of-pass : goal.invariant_of-pass
invariant_of-pass g c =
    let at = at_session c.pass.invariant c.self.invariant (ap (λ (q : Passes). q.boxes) c.pass.view_is ∙ c.requires.passes) c.self.view_is c.args.to _ _ _ c.requires.to c.index_mut.ensures.value c.index.ensures in
    let is = c.in-Ok.ensures.rule ∙ ap (λ (v : HandState). with_put v (posting c.pass.inside.seat (plain_letter c.args.letter))) at.is_hand.shows in
    hands_set c.pass.inside.seat c.pass.inside.passes.items c.args.to c.push_as.new.pass c.pass.invariant (is_hand c.pass.inside.seat c.args.to c.push_as.new.pass _ _ _ c.in-Ok.ensures.queue.0 (c.in-Ok.ensures.queue.2 ∙ at.is_hand.home) is)

pub invariant_of-pass-in-Err : goal.invariant_of-pass-in-Err
invariant_of-pass-in-Err g c =
    let at = at_session c.pass.invariant c.self.invariant (ap (λ (q : Passes). q.boxes) c.pass.view_is ∙ c.requires.passes) c.self.view_is c.args.to _ _ _ c.requires.to c.index_mut.ensures.value c.index.ensures in
    hands_set c.pass.inside.seat c.pass.inside.passes.items c.args.to c.push_as.new.pass c.pass.invariant
    (is_hand c.pass.inside.seat c.args.to c.push_as.new.pass _ _ _ c.in-Err.ensures.queue.0 (c.in-Err.ensures.queue.2 ∙ at.is_hand.home) (c.in-Err.ensures.rule.1 ∙ at.is_hand.shows))

pub returns-in-Ok-clause-put : goal.returns-in-Ok-clause-put
returns-in-Ok-clause-put g c =
    let at = at_session c.pass.invariant c.self.invariant (ap (λ (q : Passes). q.boxes) c.pass.view_is ∙ c.requires.passes) c.self.view_is c.args.to _ _ _ c.requires.to c.index_mut.ensures.value c.index.ensures in
    let letter = plain_letter c.args.letter in
    let is = c.in-Ok.ensures.rule ∙ ap (λ (v : HandState). with_put v (posting c.pass.inside.seat letter)) at.is_hand.shows in
    put_at c.pass.inside.seat c.pass.inside.passes.items c.args.to c.index_mut.result.now c.push_as.new.pass c.pass.inside.fulls c.pass.inside.empties letter at.here c.in-Ok.ensures.queue.0 (ap (λ (v : HandState). first_put v.puts) is) (ap (λ (v : HandState). v.taken) is)
    ∙ ap (λ (q : Passes). after_put q c.args.to letter) c.pass.view_is

pub returns-in-Err-clause-counted : goal.returns-in-Err-clause-counted
returns-in-Err-clause-counted g c =
    let at = at_session c.pass.invariant c.self.invariant (ap (λ (q : Passes). q.boxes) c.pass.view_is ∙ c.requires.passes) c.self.view_is c.args.to _ _ _ c.requires.to c.index_mut.ensures.value c.index.ensures in
    stays c.pass.inside.seat c.pass.inside.passes.items c.args.to c.index_mut.result.now c.push_as.new.pass _ c.pass.inside.empties at.here c.in-Err.ensures.queue.0 c.in-Err.ensures.rule.1
    ∙ ap (λ n. passes_of c.pass.inside.seat c.pass.inside.passes.items n c.pass.inside.empties) c.saturating_add-pass-inside.ensures
    ∙ ap after_full c.pass.view_is

pub returns-in-Err-clause-full : goal.returns-in-Err-clause-full
returns-in-Err-clause-full g c =
    let schema = g.S.Post.schema in
    let seats = g.S.Post.seats in
    let at = at_session c.pass.invariant c.self.invariant (ap (λ (q : Passes). q.boxes) c.pass.view_is ∙ c.requires.passes) c.self.view_is c.args.to _ _ _ c.requires.to c.index_mut.ensures.value c.index.ensures in
    subst (λ (q : Passes). Held schema seats g.S.Post.found q c.args.to BOX_LETTERS) c.pass.view_is
    (held schema seats g.S.Post.found c.pass.inside.seat c.pass.inside.passes.items c.args.to c.index_mut.result.now c.pass.inside.fulls c.pass.inside.empties BOX_LETTERS at.here at.is_hand (subst (λ n. fifo.Held n (Sees schema seats g.S.Post.found (view c.index_mut.result.now))) at.room c.in-Err.ensures.rule.2))

pub returns-in-Ok-clause-same : goal.returns-in-Ok-clause-same
returns-in-Ok-clause-same g c = let is = returns-in-Ok-clause-put g c in (ap (λ (q : Passes). q.boxes) is, ap (λ (q : Passes). q.seat) is)

pub returns-in-Err-clause-same : goal.returns-in-Err-clause-same
returns-in-Err-clause-same g c = let is = returns-in-Err-clause-counted g c in (ap (λ (q : Passes). q.boxes) is, ap (λ (q : Passes). q.seat) is)
