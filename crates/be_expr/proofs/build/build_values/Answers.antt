use Rattle.std.proofs.Common.{◌≡◌, ◌+◌, ◌≤◌, ℤ, List, [], ◌∷◌, length, sym, ◌∙◌, ap, subst, arith, rules, w64, to_z, of_z, option_map}
use Rattle.be_base.specs.Tokens.{tokens}
use Rattle.be_base.proofs.SetReadings.{values_after}
use Rattle.be_model.specs.Forms.{put_value}
use Rattle.be_model.proofs.Putting.{put_length}
use Rattle.be_model.proofs.SetsBuilt.{put_with, first_put, one_more_put}
use Rattle.be_expr.proofs.BuiltValues.{are_fine_behind, next_is_fine, next_is_outside, none_is_next, no_room, none_built, value_met}
use Rattle.be_expr.proofs.build.build_values.Goals as goal

pub loop-is_last-init : goal.loop-is_last-init
loop-is_last-init c =
    let s = c.args.schema.now in
    let a = c.args.attr in
    let value = c.in-Some.value in
    let o = tokens c.args.text.now in
    let rest = tokens c.in-Some.rest.now in
    let n : ℤ = c.in-Some-value.number in
    let meant = value_met _ _ _ c.in-Some-value.ensures in
    let kept : to_z w64 (of_z w64 n) ≡ n = search rules in
    let one : c.in_ok-values.values ≡ n ∷ [] = c.in_ok-values.ensures.number ∙ ap (λ (m : ℤ). m ∷ []) kept in
    record {
      whole = first_put s a c.in_ok-values.values n value.word.now value.is_last o rest meant one c.in-Some.ensures.value;
      fine = next_is_fine s a 0 value.word.now n value.is_last o rest meant c.in-Some.ensures.value;
      few = omega arith;
      put = subst (λ (xs : List ℤ). length xs ≤ 1) (sym one) (omega arith);
      begun = c.in-Some.ensures.shorter;
    }

pub returns-then-count-eq-SET_VALUES-clause-values : goal.returns-then-count-eq-SET_VALUES-clause-values
returns-then-count-eq-SET_VALUES-clause-values c =
    let s = c.args.schema.now in
    let a = c.args.attr in
    let o = tokens c.loop-is_last.rest.now in
    none_built s a _ (c.loop-is_last.invariant.fine ∙ ap (λ b. are_fine_behind s a c.loop-is_last.count (values_after b o)) c.loop-is_last-test.true
    ∙ no_room s a c.loop-is_last.count o (omega (arith, c.if-count-eq-SET_VALUES.true)))

pub returns-in_default-read_value-clause-values : goal.returns-in_default-read_value-clause-values
returns-in_default-read_value-clause-values c =
    let s = c.args.schema.now in
    let a = c.args.attr in
    let o = tokens c.loop-is_last.rest.now in
    none_built s a _ (c.loop-is_last.invariant.fine ∙ ap (λ b. are_fine_behind s a c.loop-is_last.count (values_after b o)) c.loop-is_last-test.true
    ∙ none_is_next s a c.loop-is_last.count o c.in_default-read_value.ensures.value)

pub returns-in_default-value-2-clause-values : goal.returns-in_default-value-2-clause-values
returns-in_default-value-2-clause-values c =
    let s = c.args.schema.now in
    let a = c.args.attr in
    let value = c.in-Some-read_value.value in
    let o = tokens c.loop-is_last.rest.now in
    none_built s a _ (c.loop-is_last.invariant.fine ∙ ap (λ b. are_fine_behind s a c.loop-is_last.count (values_after b o)) c.loop-is_last-test.true
    ∙ next_is_outside s a c.loop-is_last.count value.word.now value.is_last o (tokens c.in-Some-read_value.after.now)
    (value_met _ _ _ c.in_default-value-2.ensures) c.in-Some-read_value.ensures.value)

pub loop-is_last-preserved : goal.loop-is_last-preserved
loop-is_last-preserved c =
    let s = c.args.schema.now in
    let a = c.args.attr in
    let values = c.loop-is_last.values in
    let count = c.loop-is_last.count in
    let value = c.in-Some-read_value.value in
    let o = tokens c.loop-is_last.rest.now in
    let rest = tokens c.in-Some-read_value.after.now in
    let n : ℤ = c.in-Some-value-2.number in
    let meant = value_met _ _ _ c.in-Some-value-2.ensures in
    let kept : to_z w64 (of_z w64 n) ≡ n = search rules in
    let put : c.insert.new.self ≡ put_value n values = c.in_ok-insert.ensures.put ∙ ap (λ (m : ℤ). put_value m values) kept in
    let longer = (put_length n values).1 in
    record {
      whole = c.loop-is_last.invariant.whole ∙ ap (λ b. option_map (put_with s a values) (values_after b o)) c.loop-is_last-test.true
          ∙ one_more_put s a values c.insert.new.self n value.word.now value.is_last o rest meant put c.in-Some-read_value.ensures.value;
      fine = c.loop-is_last.invariant.fine ∙ ap (λ b. are_fine_behind s a count (values_after b o)) c.loop-is_last-test.true
          ∙ next_is_fine s a count value.word.now n value.is_last o rest meant c.in-Some-read_value.ensures.value;
      few = omega (arith, c.loop-is_last.invariant.few, c.if-count-eq-SET_VALUES.false);
      put = subst (λ (xs : List ℤ). length xs ≤ count + 1) (sym put) (omega (arith, c.loop-is_last.invariant.put, (put_length n values).0, longer));
      begun = omega (arith, c.loop-is_last.invariant.begun, c.in-Some-read_value.ensures.shorter);
    }
