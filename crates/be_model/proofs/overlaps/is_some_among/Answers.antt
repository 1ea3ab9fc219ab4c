use Rattle.std.proofs.Common.{◌≡◌, true, false, ℤ, pos, get_or, int_lt, sym, ap, ap₂, ◌∙◌, arith, rules, w64, to_z, of_z}
use Rattle.be_model.proofs.Merging.{other_below, has_next_number, has_next_value, has_no_number}
use Rattle.be_model.proofs.overlaps.is_some_among.Goals as goal

pub both-preserved-then-numbers-i-2 : goal.both-preserved-then-numbers-i-2
both-preserved-then-numbers-i-2 c =
    let x : ℤ = get_or c.args.numbers.now c.both.i (pos 0) in
    let v : ℤ = get_or c.args.values.now c.both.k (pos 0) in
    let x_kept : to_z w64 (of_z w64 x) ≡ x = search rules in
    let v_kept : to_z w64 (of_z w64 v) ≡ v = search rules in
    let low : int_lt x v ≡ true = sym (ap₂ int_lt x_kept v_kept) ∙ c.if-numbers-i-2.true in
    record {
      left = c.both.invariant.left ∙ has_next_number c.args.numbers.now c.args.values.now c.both.i c.both.k c.both-test.true c.if-k-values.true low c.requires.values;
      number = omega arith;
      value = c.both.invariant.value;
    }

pub both-preserved : goal.both-preserved
both-preserved c =
    let x : ℤ = get_or c.args.numbers.now c.both.i (pos 0) in
    let v : ℤ = get_or c.args.values.now c.both.k (pos 0) in
    let x_kept : to_z w64 (of_z w64 x) ≡ x = search rules in
    let v_kept : to_z w64 (of_z w64 v) ≡ v = search rules in
    let over : int_lt x v ≡ false = sym (ap₂ int_lt x_kept v_kept) ∙ c.if-numbers-i-2.false in
    let low : int_lt v x ≡ true = other_below x v (λ same. c.if-numbers-i.false (ap (of_z w64) same)) over in
    record {
      left = c.both.invariant.left ∙ has_next_value c.args.numbers.now c.args.values.now c.both.i c.both.k c.both-test.true c.if-k-values.true low c.requires.numbers;
      number = c.both.invariant.number;
      value = omega arith;
    }

pub returns-after-both : goal.returns-after-both
returns-after-both c = sym (c.both.invariant.left ∙ has_no_number c.args.numbers.now c.args.values.now c.both.i c.both.k c.both-test.false)
