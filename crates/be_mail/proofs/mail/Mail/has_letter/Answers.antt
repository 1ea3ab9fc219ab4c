-- A look at the seat's own mailbox leaves the passes, and says that there is none only of an empty one.
use Rattle.std.proofs.Common.{◌≡◌, Bool, true, false, not, refl, sym, ap, ◌∙◌, subst}
use Rattle.std.specs.Prelude.{IsTrue}
use Rattle.be_mail.specs.Passes.{Passes, Held}
use Rattle.be_mail.proofs.Hands.{at_own, may_fetch, is_hand, hands_set, stays, held}
use Rattle.be_mail.proofs.mail.Mail.has_letter.Goals as goal

is_empty : (b : Bool) → not b ≡ false → IsTrue b
is_empty true e = refl
is_empty false e = absurd cc

pub is_empty_as-requires-clause-queue : goal.is_empty_as-requires-clause-queue
is_empty_as-requires-clause-queue g c =
    let at = at_own c.pass.invariant c.self.invariant (ap (λ (q : Passes). q.boxes) c.pass.view_is ∙ c.requires.passes) c.self.view_is _ _ c.index_mut.ensures.value c.index.ensures in
    (at.box, at.is_hand.home)

pub is_empty_as-requires-clause-rule : goal.is_empty_as-requires-clause-rule
is_empty_as-requires-clause-rule g c =
    let at = at_own c.pass.invariant c.self.invariant (ap (λ (q : Passes). q.boxes) c.pass.view_is ∙ c.requires.passes) c.self.view_is _ _ c.index_mut.ensures.value c.index.ensures in
    (may_fetch g.S.Post.schema g.S.Post.seats g.S.Post.found c.index_mut.result.now.id c.pass.inside.seat c.index_mut.result.now at.is_hand).1

pub invariant_of-pass : goal.invariant_of-pass
invariant_of-pass g c =
    let at = at_own c.pass.invariant c.self.invariant (ap (λ (q : Passes). q.boxes) c.pass.view_is ∙ c.requires.passes) c.self.view_is _ _ c.index_mut.ensures.value c.index.ensures in
    let same = c.is_empty_as.ensures.queue in
    hands_set c.pass.inside.seat c.pass.inside.passes.items c.pass.inside.seat c.is_empty_as.new.pass c.pass.invariant
    (is_hand c.pass.inside.seat c.pass.inside.seat c.is_empty_as.new.pass _ _ _ same.0.0 (same.0.2 ∙ at.is_hand.home) (same.1 ∙ at.is_hand.shows))

pub returns-clause-same : goal.returns-clause-same
returns-clause-same g c =
    let at = at_own c.pass.invariant c.self.invariant (ap (λ (q : Passes). q.boxes) c.pass.view_is ∙ c.requires.passes) c.self.view_is _ _ c.index_mut.ensures.value c.index.ensures in
    let same = c.is_empty_as.ensures.queue in
    stays c.pass.inside.seat c.pass.inside.passes.items c.pass.inside.seat c.index_mut.result.now c.is_empty_as.new.pass c.pass.inside.fulls c.pass.inside.empties at.here same.0.0 same.1
    ∙ c.pass.view_is

pub returns-clause-empty : goal.returns-clause-empty
returns-clause-empty g c =
    let schema = g.S.Post.schema in
    let seats = g.S.Post.seats in
    let at = at_own c.pass.invariant c.self.invariant (ap (λ (q : Passes). q.boxes) c.pass.view_is ∙ c.requires.passes) c.self.view_is _ _ c.index_mut.ensures.value c.index.ensures in
    λ is. subst (λ (q : Passes). Held schema seats g.S.Post.found q q.seat 0) c.pass.view_is
    (held schema seats g.S.Post.found c.pass.inside.seat c.pass.inside.passes.items c.pass.inside.seat c.index_mut.result.now c.pass.inside.fulls c.pass.inside.empties 0 at.here at.is_hand (c.is_empty_as.ensures.rule (is_empty c.is_empty_as.result is)))
