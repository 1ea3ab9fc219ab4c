use Rattle.std.proofs.Common.{◌≡◌, ◌++◌, ◌∷◌, [], true, false, not, length, take, sym, ap, ◌∙◌, subst, arith, length-append}
use Rattle.std.specs.List.{filter, list_all}
use Rattle.std.specs.Arc.{arc_value}
use Rattle.std.proofs.lemmas.List.{append_assoc}
use Rattle.std.proofs.lemmas.Bool.{not_from_false}
use Rattle.be_model.specs.declared.changes.Row.{Row}
use Rattle.be_model.specs.Lies.{row_lies}
use Rattle.be_model.proofs.Attributes.{all_at}
use Rattle.be_shape.specs.Children.{may_pass}
use Rattle.be_insert.proofs.AtPlaces.{all_next, taken, all_without, all_moved, some_same}
use Rattle.be_insert.proofs.leaves.move_rows.Goals as goal

pub may_pass-requires-clause-lies : goal.may_pass-requires-clause-lies
may_pass-requires-clause-lies c =
    subst (λ r. row_lies c.args.s.now r ≡ true) (sym c.deref.ensures) (all_at (row_lies c.args.s.now) c.loop-place.from c.loop-place.place (arc_value c.row.result.now) c.loop-place.invariant.lie c.row.ensures)

pub put-requires : goal.put-requires
put-requires c =
    let p = may_pass c.args.s.now c.args.hop c.args.range in
    let x = arc_value c.row.result.now in
    let passes : p x ≡ true = ap p (sym c.deref.ensures) ∙ sym c.may_pass.ensures ∙ c.if-may_pass.true in
    let t = taken p c.loop-place.from c.loop-place.place x c.row.ensures passes c.loop-place.invariant.before in
    omega (arith, ap length c.loop-place.invariant.moved, length-append c.loop-place.to (filter p c.loop-place.from), ap length t.passed, c.requires.few)

pub loop-place-preserved-then-may_pass : goal.loop-place-preserved-then-may_pass
loop-place-preserved-then-may_pass c =
    let p = may_pass c.args.s.now c.args.hop c.args.range in
    let n = λ (row : Row). not (p row) in
    let x = arc_value c.row.result.now in
    let i = c.loop-place.place in
    let v = c.loop-place.invariant in
    let passes : p x ≡ true = ap p (sym c.deref.ensures) ∙ sym c.may_pass.ensures ∙ c.if-may_pass.true in
    let t = taken p c.loop-place.from i x c.row.ensures passes v.before in
    let same : arc_value c.take.result ≡ x = some_same (sym c.take.ensures.row ∙ c.row.ensures) in
    let e = c.take.ensures.rest in
    record {
      within = omega (arith, ap length e, t.size, c.loop-place-test.true);
      lie = ap (list_all (row_lies c.args.s.now)) e ∙ all_without (row_lies c.args.s.now) c.loop-place.from i v.lie;
      before = ap (λ l. list_all n (take i l)) e ∙ ap (list_all n) t.before ∙ v.before;
      moved = ap (λ l. l ++ filter p c.take.new.self) c.put.ensures ∙ ap (λ r. (c.loop-place.to ++ r ∷ []) ++ filter p c.take.new.self) same ∙ append_assoc c.loop-place.to (x ∷ []) (filter p c.take.new.self)
          ∙ ap (λ l. c.loop-place.to ++ l) (ap (λ l. x ∷ filter p l) e ∙ sym t.passed) ∙ v.moved;
      left = ap (filter n) e ∙ t.left ∙ v.left;
    }

pub loop-place-preserved : goal.loop-place-preserved
loop-place-preserved c =
    let p = may_pass c.args.s.now c.args.hop c.args.range in
    let x = arc_value c.row.result.now in
    let v = c.loop-place.invariant in
    let fails : p x ≡ false = ap p (sym c.deref.ensures) ∙ sym c.may_pass.ensures ∙ c.if-may_pass.false in
    record {
      within = omega (arith, c.loop-place-test.true);
      lie = v.lie;
      before = all_next (λ row. not (p row)) c.loop-place.from c.loop-place.place x v.before c.row.ensures (not_from_false (p x) fails);
      moved = v.moved;
      left = v.left;
    }

pub returns-clause-left : goal.returns-clause-left
returns-clause-left c =
    let v = c.loop-place.invariant in
    (all_moved (may_pass c.args.s.now c.args.hop c.args.range) c.args.from.now c.loop-place.from c.loop-place.to c.loop-place.place (omega (arith, c.loop-place-test.false, c.len.ensures)) v.before v.moved v.left).left

pub returns-clause-moved : goal.returns-clause-moved
returns-clause-moved c =
    let v = c.loop-place.invariant in
    (all_moved (may_pass c.args.s.now c.args.hop c.args.range) c.args.from.now c.loop-place.from c.loop-place.to c.loop-place.place (omega (arith, c.loop-place-test.false, c.len.ensures)) v.before v.moved v.left).moved
