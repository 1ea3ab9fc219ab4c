use Rattle.std.proofs.Common.{◌≡◌, None, Some, option_and_then, sym, ap, ◌∙◌, subst}
use Rattle.be_shape.specs.Plain.{Plain, plain}
use Rattle.be_shape.specs.Shape.{nothing}
use Rattle.be_shape.specs.Paths.{walk, range_along}
use Rattle.be_shape.specs.Right.{IsRight}
use Rattle.be_shape.specs.NodeList.{known_along}
use Rattle.be_shape.proofs.Reshaping.{right_at, range_there}
use Rattle.be_insert.proofs.split_steps.can_split_at.Goals as goal

pub can_split_off-requires-clause-right : goal.can_split_off-requires-clause-right
can_split_off-requires-clause-right c =
    let t = c.args.t.now in
    let hops = c.args.hops.now in
    let m = plain c.in-Some.n.now in
    let there : walk hops (plain t.root) ≡ Some m = sym c.in-Some.ensures in
    subst (λ s. IsRight s (known_along s hops nothing) m) (sym c.deref-in-Some.ensures) (right_at t hops m there)

pub can_split_off-requires-clause-at : goal.can_split_off-requires-clause-at
can_split_off-requires-clause-at c =
    let t = c.args.t.now in
    let hops = c.args.hops.now in
    let m = plain c.in-Some.n.now in
    let there : walk hops (plain t.root) ≡ Some m = sym c.in-Some.ensures in
    range_there c.deref-in-Some.result.now hops (plain t.root) m c.walk_range-range.result there
    (c.walk_range-range.ensures.range ∙ ap (λ s. option_and_then (λ (x : Plain). range_along s hops None) (walk hops (plain t.root))) (c.deref.ensures ∙ sym c.deref-in-Some.ensures))
