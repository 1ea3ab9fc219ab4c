use Rattle.std.proofs.Common.{◌≤◌, ◌+◌, ◌-◌, false, eqb, length, drop, cond, sym, ap, ◌∙◌, arith}
use Rattle.std.specs.Arc.{arc_value}
use Rattle.std.proofs.lemmas.Bool.{ne_eqb}
use Rattle.std.proofs.lemmas.List.{at_drop_all}
use Rattle.be_model.specs.Lies.{row_lies}
use Rattle.be_model.proofs.Attributes.{all_at}
use Rattle.be_shape.specs.Children.{may_pass}
use Rattle.be_plan.proofs.Fails.{few_fail, few_enough, passes_on, fails_on}
use Rattle.be_plan.proofs.splits.enough_pass.Goals.{then-not-may_pass_at+else-spare-eq0, else-not-may_pass_at}
use Rattle.be_plan.proofs.splits.enough_pass.Goals as goal

pub may_pass_at-requires-clause-lies : goal.may_pass_at-requires-clause-lies
may_pass_at-requires-clause-lies c =
    ap (row_lies c.args.s.now) c.deref.ensures ∙ all_at (row_lies c.args.s.now) c.args.leaf.now c.loop-place.place (arc_value c.row.result.now) c.requires.lie c.row.ensures

pub returns-then-spare-eq0 : goal.returns-then-spare-eq0
returns-then-spare-eq0 c =
    let test = may_pass c.args.s.now c.args.hop c.args.range in
    let leaf = c.args.leaf.now in
    let i = c.loop-place.place in
    let x = arc_value c.row.result.now in
    let fails = ap test (sym c.deref.ensures) ∙ sym c.may_pass_at.ensures ∙ c.if-not-may_pass_at.true in
    let none = fails_on test c.loop-place.spare i x leaf c.row.ensures fails ∙ ap (λ n. cond (eqb n 0) false (few_fail test (n - 1) (drop (i + 1) leaf))) c.if-spare-eq0.true in
    sym (sym (few_enough test leaf c.requires.many) ∙ sym c.loop-place.invariant ∙ none)

pub loop-place-preserved : goal.loop-place-preserved
loop-place-preserved c =
    let test = may_pass c.args.s.now c.args.hop c.args.range in
    let leaf = c.args.leaf.now in
    let i = c.loop-place.place in
    let x = arc_value c.row.result.now in
    let spare = c.loop-place.spare in
    let is = ap test (sym c.deref.ensures) ∙ sym c.may_pass_at.ensures in
    elim c.if-not-may_pass_at.branch [
      | then-not-may_pass_at+else-spare-eq0 w ↦
          ap (λ n. few_fail test n (drop (i + 1) leaf)) w.spare-is
          ∙ sym (fails_on test spare i x leaf c.row.ensures (is ∙ w.if-not-may_pass_at.true) ∙ ap (λ b. cond b false (few_fail test (spare - 1) (drop (i + 1) leaf))) (ne_eqb spare 0 w.if-spare-eq0.false))
          ∙ c.loop-place.invariant
      | else-not-may_pass_at w ↦
          ap (λ n. few_fail test n (drop (i + 1) leaf)) w.spare-is ∙ passes_on test spare i x leaf c.row.ensures (is ∙ w.if-not-may_pass_at.false) ∙ c.loop-place.invariant
    ]

pub returns : goal.returns
returns c =
    let test = may_pass c.args.s.now c.args.hop c.args.range in
    let leaf = c.args.leaf.now in
    let i = c.loop-place.place in
    let all : length leaf ≤ i = omega (arith, c.len-place-end.ensures, c.loop-place-test.false) in
    sym (sym (few_enough test leaf c.requires.many) ∙ sym c.loop-place.invariant ∙ at_drop_all (few_fail test c.loop-place.spare) leaf i all)
