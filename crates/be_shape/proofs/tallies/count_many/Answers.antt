use Rattle.std.proofs.Common.{◌≡◌, ℕ, cond, sym, ap, ◌∙◌, arith}
use Rattle.std.specs.Arc.{arc_value}
use Rattle.be_shape.specs.Common.{lists_many}
use Rattle.be_shape.proofs.Lists.{count_next}
use Rattle.be_shape.proofs.tallies.count_many.Goals as goal
use Rattle.be_shape.proofs.tallies.count_many.Goals.{then-lists_many, else-lists_many}

pub loop-place-preserved : goal.loop-place-preserved
loop-place-preserved c =
    let x = arc_value c.row.result.now in
    let e : c.lists_many.result ≡ lists_many x = c.lists_many.ensures ∙ ap lists_many c.deref.ensures in
    let next = count_next lists_many c.args.leaf.now c.loop-place.place c.loop-place.many x c.loop-place.invariant c.row.ensures in
    elim c.if-lists_many.branch [
      | then-lists_many w ↦ omega (arith, w.many-is, next, ap {B = ℕ} (λ b. cond b 1 0) (sym e ∙ w.if-lists_many.true))
      | else-lists_many w ↦ omega (arith, w.many-is, next, ap {B = ℕ} (λ b. cond b 1 0) (sym e ∙ w.if-lists_many.false))
    ]
