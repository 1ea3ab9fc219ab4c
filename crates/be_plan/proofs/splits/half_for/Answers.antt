use Rattle.std.proofs.Common.{◌+◌, ◌-◌, ◌<◌, ◌≤◌, true, false, length, cond, sym, ap, ◌∙◌, arith}
use Rattle.std.specs.Arc.{arc_value}
use Rattle.be_base.specs.declared.limits.TheConstants.{EARLY_ROWS}
use Rattle.be_model.specs.declared.paths.Hop.TheVariants.{Low, High}
use Rattle.be_model.specs.Lies.{row_lies}
use Rattle.be_model.proofs.Attributes.{all_at}
use Rattle.be_shape.specs.Children.{may_pass}
use Rattle.be_plan.proofs.Counting.{fail_more, too_many}
use Rattle.be_plan.proofs.Stuck.{halves}
use Rattle.be_plan.proofs.splits.half_for.Goals as goal

pub sides_at-sides-requires-clause-lies : goal.sides_at-sides-requires-clause-lies
sides_at-sides-requires-clause-lies c =
    ap (row_lies c.args.s.now) c.deref.ensures ∙ all_at (row_lies c.args.s.now) c.args.leaf.now c.loop-place.place (arc_value c.row.result.now) c.requires.lie c.row.ensures

pub returns-then-spare-high : goal.returns-then-spare-high
returns-then-spare-high c =
    let s = c.args.s.now in
    let r = c.args.range in
    let leaf = c.args.leaf.now in
    let i = c.loop-place.place in
    let x = arc_value c.row.result.now in
    let low = may_pass s Low r in
    let high = may_pass s High r in
    let within : i + 1 ≤ length leaf = omega (arith, c.loop-place-test.true, c.len-place-end.ensures) in
    let in_low = sym (ap (λ b. c.with_fail-low.result + cond b 1 0) (c.sides_at-sides.ensures.low ∙ ap low c.deref.ensures)) ∙ c.with_fail-low.ensures in
    let in_high = sym (ap (λ b. c.with_fail-high.result + cond b 1 0) (c.sides_at-sides.ensures.high ∙ ap high c.deref.ensures)) ∙ c.with_fail-high.ensures in
    let many_low : length leaf - EARLY_ROWS < c.with_fail-low.result = omega (arith, c.spare_rows-spare.ensures, c.if-spare-low.true) in
    let many_high : length leaf - EARLY_ROWS < c.with_fail-high.result = omega (arith, c.spare_rows-spare.ensures, c.if-spare-high.true) in
    let few_low = too_many low leaf (i + 1) c.with_fail-low.result c.requires.many within (fail_more low leaf i x c.loop-place.low c.with_fail-low.result c.row.ensures in_low c.loop-place.invariant.0) many_low in
    let few_high = too_many high leaf (i + 1) c.with_fail-high.result c.requires.many within (fail_more high leaf i x c.loop-place.high c.with_fail-high.result c.row.ensures in_high c.loop-place.invariant.1) many_high in
    sym (halves s r leaf true false false c.requires.splits few_low few_high)

pub loop-place-preserved : goal.loop-place-preserved
loop-place-preserved c =
    let s = c.args.s.now in
    let r = c.args.range in
    let leaf = c.args.leaf.now in
    let i = c.loop-place.place in
    let x = arc_value c.row.result.now in
    let low = may_pass s Low r in
    let high = may_pass s High r in
    let within : i + 1 ≤ length leaf = omega (arith, c.loop-place-test.true, c.len-place-end.ensures) in
    let in_low = sym (ap (λ b. c.with_fail-low.result + cond b 1 0) (c.sides_at-sides.ensures.low ∙ ap low c.deref.ensures)) ∙ c.with_fail-low.ensures in
    let in_high = sym (ap (λ b. c.with_fail-high.result + cond b 1 0) (c.sides_at-sides.ensures.high ∙ ap high c.deref.ensures)) ∙ c.with_fail-high.ensures in (
      fail_more low leaf i x c.loop-place.low c.with_fail-low.result c.row.ensures in_low c.loop-place.invariant.0,
      fail_more high leaf i x c.loop-place.high c.with_fail-high.result c.row.ensures in_high c.loop-place.invariant.1,
      within,
    )
