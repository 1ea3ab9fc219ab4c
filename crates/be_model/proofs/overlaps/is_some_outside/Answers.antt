use Rattle.std.proofs.Common.{◌≡◌, ◌+◌, ◌<◌, true, false, ℤ, pos, length, drop, get_or, int_lt, sym, ap, ap₂, ◌∙◌, arith, rules, w64, to_z, of_z}
use Rattle.be_model.specs.Matching.{lacks_some}
use Rattle.be_model.proofs.Merging.{other_below, lacks_found, lacks_both, lacks_next_number, lacks_at_end}
use Rattle.be_model.proofs.overlaps.is_some_outside.Goals as goal
use Rattle.be_model.proofs.overlaps.is_some_outside.Goals.{then-values-k-2, else-values-k-2}

pub returns-then-values-k : goal.returns-then-values-k
returns-then-values-k c =
    let x : ℤ = get_or c.args.numbers.now c.loop-x.x-index (pos 0) in
    let v : ℤ = get_or c.args.values.now c.loop-x.k (pos 0) in
    let x_kept : to_z w64 (of_z w64 x) ≡ x = search rules in
    let v_kept : to_z w64 (of_z w64 v) ≡ v = search rules in
    let low : int_lt v x ≡ true = sym (ap₂ int_lt v_kept x_kept) ∙ c.if-values-k.true in
    let some : c.loop-x.k < length c.args.values.now = omega arith in
    sym (c.loop-x.invariant.left ∙ lacks_found c.args.numbers.now c.args.values.now c.loop-x.x-index c.loop-x.k c.loop-x-test.true some low c.requires.numbers)

pub loop-x-preserved : goal.loop-x-preserved
loop-x-preserved c =
    let x : ℤ = get_or c.args.numbers.now c.loop-x.x-index (pos 0) in
    let v : ℤ = get_or c.args.values.now c.loop-x.k (pos 0) in
    let x_kept : to_z w64 (of_z w64 x) ≡ x = search rules in
    let v_kept : to_z w64 (of_z w64 v) ≡ v = search rules in
    let over : int_lt v x ≡ false = sym (ap₂ int_lt v_kept x_kept) ∙ c.if-values-k.false in
    let some : c.loop-x.k < length c.args.values.now = omega arith in
    elim c.if-values-k-2.branch [
      | then-values-k-2 w ↦
          let same : v ≡ x = sym v_kept ∙ ap (to_z w64) w.if-values-k-2.true ∙ x_kept in
          record {
            left = c.loop-x.invariant.left ∙ lacks_both c.args.numbers.now c.args.values.now c.loop-x.x-index c.loop-x.k c.loop-x-test.true some same c.requires.values
                ∙ ap (λ n. lacks_some (drop (c.loop-x.x-index + 1) c.args.numbers.now) (drop n c.args.values.now)) (sym w.k-is);
            value = omega (arith, w.k-is);
          }
      | else-values-k-2 w ↦
          let low : int_lt x v ≡ true = other_below v x (λ same. w.if-values-k-2.false (ap (of_z w64) same)) over in
          record {
            left = c.loop-x.invariant.left ∙ lacks_next_number c.args.numbers.now c.args.values.now c.loop-x.x-index c.loop-x.k c.loop-x-test.true some low c.requires.values
                ∙ ap (λ n. lacks_some (drop (c.loop-x.x-index + 1) c.args.numbers.now) (drop n c.args.values.now)) (sym w.k-is);
            value = omega (arith, w.k-is);
          }
    ]

pub returns : goal.returns
returns c =
    lacks_at_end c.args.numbers.now c.args.values.now c.loop-x.x-index c.loop-x.k c.loop-x-test.false ∙ sym c.loop-x.invariant.left
