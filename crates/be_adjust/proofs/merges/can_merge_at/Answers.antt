use Rattle.std.proofs.Common.{◌≡◌, [], true, None, Some, option_and_then, sym, ap, ◌∙◌, subst}
use Rattle.std.specs.List.{list_all}
use Rattle.std.specs.Arc.{arc_value}
use Rattle.be_shape.specs.Plain.{Plain, plain, rows_below}
use Rattle.be_shape.specs.Shape.{nothing, known, may_stand}
use Rattle.be_shape.specs.Paths.{walk, range_along}
use Rattle.be_shape.specs.NodeList.{known_along}
use Rattle.be_shape.specs.Steps.{can_merge}
use Rattle.be_shape.proofs.Among.{placed_at}
use Rattle.be_shape.proofs.Reshaping.{right_at, range_there, ends_at}
use Rattle.be_adjust.proofs.merges.can_merge_at.Goals as goal

pub can_merge-requires-clause-may : goal.can_merge-requires-clause-may
can_merge-requires-clause-may c =
    let t = c.args.t.now in
    let m = plain c.in-Some.n.now in
    subst (λ s. list_all (may_stand s) (rows_below m) ≡ true) (sym c.deref-in-Some.ensures) (right_at t c.args.hops.now m (sym c.in-Some.ensures)).may

pub can_merge-requires-clause-rise : goal.can_merge-requires-clause-rise
can_merge-requires-clause-rise c =
    let t = c.args.t.now in
    let s = arc_value t.schema in
    let hops = c.args.hops.now in
    let m = plain c.in-Some.n.now in
    (placed_at s (known_along s hops nothing) m (right_at t hops m (sym c.in-Some.ensures))).rise

pub returns-in-Some : goal.returns-in-Some
returns-in-Some c =
    let t = c.args.t.now in
    let s = arc_value t.schema in
    let n = plain t.root in
    let hops = c.args.hops.now in
    let last = c.args.last in
    let m = plain c.in-Some.n.now in
    let there : walk hops n ≡ Some m = sym c.in-Some.ensures in
    let at = range_there s hops n m c.walk_range-range.result there (c.walk_range-range.ensures.range ∙ ap (λ a. option_and_then (λ (x : Plain). range_along a hops None) (walk hops n)) c.deref.ensures) in
    c.can_merge.ensures ∙ ap (λ a. can_merge a last (known c.walk_range-range.result []) m) c.deref-in-Some.ensures ∙ ap (λ r. can_merge s last (known r []) m) at ∙ sym (ends_at (can_merge s last) s hops n m there)
