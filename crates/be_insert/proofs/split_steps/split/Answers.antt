use Rattle.std.proofs.Common.{◌≡◌, OnOk, sym, ◌∙◌, subst}
use Rattle.std.specs.Arc.{arc_value}
use Rattle.be_model.specs.Schemas.{IsSchema}
use Rattle.be_shape.specs.Plain.{plain}
use Rattle.be_shape.specs.Shape.{nothing}
use Rattle.be_shape.specs.Right.{IsRight}
use Rattle.be_shape.proofs.Roots.{root_right, root_of}
use Rattle.be_shape.specs.Steps.{split_off, changed_at}
use Rattle.be_insert.proofs.SplitOff.{split_rows}
use Rattle.be_insert.proofs.split_steps.split.Goals as goal

pub split_at-requires-clause-right : goal.split_at-requires-clause-right
split_at-requires-clause-right c =
    let t = c.args.t.now in
    subst (λ s. IsRight s nothing (plain t.root)) (sym c.deref-2.ensures) (root_right (arc_value t.schema) (plain t.root) (root_of t))

pub invariant_of-t : goal.invariant_of-t
invariant_of-t c =
    let t = c.args.t.now in
    let n = plain t.root in
    let hops = c.args.hops.now in
    let hop = c.args.hop in
    let w = plain c.split_at.new.root in
    let done = subst (λ s. OnOk c.split_at.result (w ≡ changed_at (split_off s hop) s hops n)) c.deref-2.ensures c.split_at.ensures.done in
    let k = split_rows t hops hop w c.split_at.result (subst IsSchema c.deref.ensures c.count.ensures.form) (sym c.can_split_at.ensures ∙ c.if-not-can_split_at.false) done c.split_at.ensures.refused in
    record { alpha_is_share = t.alpha_is_share; lie = k.root.lie; placed = k.root.placed; drawn = k.root.drawn; pruned = k.root.pruned; settled = k.root.settled }

pub returns-in-Ok-clause-contents : goal.returns-in-Ok-clause-contents
returns-in-Ok-clause-contents c =
    let t = c.args.t.now in
    let n = plain t.root in
    let hops = c.args.hops.now in
    let hop = c.args.hop in
    let w = plain c.split_at.new.root in
    let done = subst (λ s. OnOk c.split_at.result (w ≡ changed_at (split_off s hop) s hops n)) c.deref-2.ensures c.split_at.ensures.done in
    let k = split_rows t hops hop w c.split_at.result (subst IsSchema c.deref.ensures c.count.ensures.form) (sym c.can_split_at.ensures ∙ c.if-not-can_split_at.false) done c.split_at.ensures.refused in
    k.contents
