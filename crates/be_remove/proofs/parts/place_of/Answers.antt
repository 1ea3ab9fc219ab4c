use Rattle.std.proofs.Common.{◌≡◌, ◌+◌, zero, suc, eqb, true, false, drop, ap, ◌∙◌, subst, add-one, arith}
use Rattle.std.proofs.lemmas.Bool.{eq-eqb, ne_eqb}
use Rattle.be_shape.specs.declared.nodes.Node.TheViews.{out-Part}
use Rattle.be_shape.specs.Plain.{parts_as, part_as}
use Rattle.be_shape.proofs.Plains.{part_out}
use Rattle.be_remove.specs.Taken.{is_first}
use Rattle.be_remove.proofs.FirstParts.{found_here, one_later, on_later}
use Rattle.be_remove.proofs.parts.place_of.Goals as goal

pub returns-then-part-a : goal.returns-then-part-a
returns-then-part-a c =
    let ps = c.args.parts.now in
    let a = c.args.a in
    let i = c.loop-part.part-index in
    let inv = c.loop-part.invariant in
    let q = c.part-item.result in
    let is : eqb (part_as q).0.0 a.0 ≡ true = ap (λ z. eqb z.0.0 a.0) (part_out q) ∙ eq-eqb (out-Part q).attr.0 a.0 c.if-part-a.true in
    let e : i + zero ≡ c.loop-part.place = omega (arith, inv.at) in
    subst (λ j. is_first a j (parts_as ps) ≡ true) e (inv.first zero (found_here a ps i q (omega (arith, c.loop-part-test.true)) c.part-item.is is))

pub loop-part-preserved : goal.loop-part-preserved
loop-part-preserved c =
    let ps = c.args.parts.now in
    let a = c.args.a in
    let i = c.loop-part.part-index in
    let inv = c.loop-part.invariant in
    let q = c.part-item.result in
    let not_is : eqb (part_as q).0.0 a.0 ≡ false = ap (λ z. eqb z.0.0 a.0) (part_out q) ∙ ne_eqb (out-Part q).attr.0 a.0 c.if-part-a.false in
    let l = c.loop-part-test.true in
    record {
      at = ap (λ n. n + 1) inv.at;
      on = on_later a ps i q l c.part-item.is not_is ∙ inv.on;
      first = λ j f. subst (λ n. is_first a n (parts_as ps) ≡ true) (omega arith) (inv.first (suc j) (one_later a ps i j q l c.part-item.is not_is (subst (λ n. is_first a j (parts_as (drop n ps)) ≡ true) (add-one i) f)));
    }
