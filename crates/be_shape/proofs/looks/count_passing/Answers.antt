use Rattle.std.proofs.Common.{◌≡◌, ℕ, true, cond, sym, ap, ◌∙◌, subst, arith}
use Rattle.std.specs.Arc.{arc_value}
use Rattle.be_model.specs.Lies.{row_lies}
use Rattle.be_model.proofs.Attributes.{all_at}
use Rattle.be_shape.specs.Children.{may_pass}
use Rattle.be_shape.proofs.Lists.{count_next}
use Rattle.be_shape.proofs.looks.count_passing.Goals as goal
use Rattle.be_shape.proofs.looks.count_passing.Goals.{then-may_pass, else-may_pass}

pub may_pass-requires-clause-lies : goal.may_pass-requires-clause-lies
may_pass-requires-clause-lies c =
    subst (λ r. row_lies c.args.s.now r ≡ true) (sym c.deref.ensures) (all_at (row_lies c.args.s.now) c.args.leaf.now c.loop-place.place (arc_value c.row.result.now) c.requires.lie c.row.ensures)

pub loop-place-preserved : goal.loop-place-preserved
loop-place-preserved c =
    let p = may_pass c.args.s.now c.args.hop c.args.range in
    let x = arc_value c.row.result.now in
    let e : c.may_pass.result ≡ p x = c.may_pass.ensures ∙ ap p c.deref.ensures in
    let next = count_next p c.args.leaf.now c.loop-place.place c.loop-place.count x c.loop-place.invariant c.row.ensures in
    elim c.if-may_pass.branch [
      | then-may_pass w ↦ omega (arith, w.count-is, next, ap {B = ℕ} (λ b. cond b 1 0) (sym e ∙ w.if-may_pass.true))
      | else-may_pass w ↦ omega (arith, w.count-is, next, ap {B = ℕ} (λ b. cond b 1 0) (sym e ∙ w.if-may_pass.false))
    ]
