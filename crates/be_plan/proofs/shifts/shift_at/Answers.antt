use Rattle.std.proofs.Common.{◌≡◌, ◌<◌, length, false, Some, None, sym, ap, ◌∙◌, subst, arith}
use Rattle.std.specs.List.{AllByRecursion}
use Rattle.be_base.specs.declared.names.AttrNo.{AttrNo}
use Rattle.be_model.specs.declared.paths.Hop.{Hop}
use Rattle.be_model.specs.declared.paths.Hop.TheVariants.{Part}
use Rattle.be_shape.specs.declared.nodes.Node.TheViews.{out-Node, out-Part}
use Rattle.be_shape.specs.Paths.{child}
use Rattle.be_shape.specs.Children.{roots_of}
use Rattle.be_shape.specs.Ranges.{is_bounded, is_rising}
use Rattle.be_shape.specs.Plain.{Plain, plain, parts_as, parts_under, rows_below}
use Rattle.be_shape.specs.Shape.{attrs_of}
use Rattle.be_shape.proofs.Plains.{plain_out, part_out}
use Rattle.be_plan.specs.Shifts.{least_gain, first_shift, IsBelow}
use Rattle.be_plan.proofs.Moves.{one_part, next_part, no_more_parts}
use Rattle.be_plan.proofs.Apart.{first_below}
use Rattle.be_plan.proofs.Firsts.{roots_there}
use Rattle.be_plan.proofs.Places.{part_there}
use Rattle.be_plan.proofs.shifts.shift_at.Goals as goal

pub returns-then-len-lt2 : goal.returns-then-len-lt2
returns-then-len-lt2 c =
    let s = c.args.s.now in
    let x = out-Node c.args.n.now in
    let few : length x.parts.items < 2 = omega (arith, x.parts.ok.0, c.len.ensures, c.if-len-lt2.true) in
    sym (ap (λ q. first_shift s (attrs_of q) q) (ap parts_under (plain_out c.args.n.now)) ∙ one_part s x.parts.items few)

pub least_below-requires : goal.least_below-requires
least_below-requires c =
    let s = c.args.s.now in
    let n = plain c.args.n.now in
    let k = c.requires.0 in
    let r = c.requires.1 in
    let items = c.as_slice-part-items.result.now in
    let a = (out-Part c.part-item.result).attr in
    let under = ap parts_under (plain_out c.args.n.now) ∙ sym (ap parts_as c.as_slice-part-items.ensures.value) in
    let each = subst (λ ps. AllByRecursion (λ (x : Hop × Plain). child x.0 n ≡ Some x.1) (roots_of ps)) under (roots_there s k n r) in
    let there = subst (λ (z : AttrNo × Plain). child (Part z.0) n ≡ Some z.1) (part_out c.part-item.result) (part_there n items c.loop-part.part-index c.part-item.result c.loop-part-test.true c.part-item.is each) in
    let is = c.whole_range-range.ensures.range in
    let below = first_below s k n (plain (out-Part c.part-item.result).root.value) a r there (ap is_bounded (sym is) ∙ c.whole_range-range.ensures.bounded) (ap is_rising (sym is) ∙ c.whole_range-range.ensures.rising) in
    let moved = subst (λ q. IsBelow s (attrs_of q) a false c.whole_range-range.result (plain (out-Part c.part-item.result).root.value)) (under ∙ ap parts_as (c.as_slice-part-items.ensures.value ∙ sym c.as_slice-in-loop-part.ensures.value)) (subst (λ q. IsBelow s (attrs_of (parts_under n)) a false q (plain (out-Part c.part-item.result).root.value)) (sym is) below) in
    subst (λ m. IsBelow s (attrs_of (parts_as c.as_slice-in-loop-part.result.now)) a false c.whole_range-range.result (plain m)) (sym c.deref.ensures) moved

pub returns-in-Some : goal.returns-in-Some
returns-in-Some c =
    let s = c.args.s.now in
    let items = c.as_slice-part-items.result.now in
    let is = c.as_slice-part-items.ensures.value in
    let a = (out-Part c.part-item.result).attr in
    let e = c.in-Some.ensures ∙ ap (λ ps. least_gain s (attrs_of (parts_as ps)) a (rows_below (plain c.deref.result.now))) (c.as_slice-in-loop-part.ensures.value ∙ sym is) ∙ ap (λ m. least_gain s (attrs_of (parts_as items)) a (rows_below (plain m))) c.deref.ensures in
    let step = next_part s (attrs_of (parts_as items)) items c.loop-part.part-index c.part-item.result (Some (c.in-Some.id, c.in-Some.to)) c.loop-part-test.true c.part-item.is e in
    sym step ∙ c.loop-part.invariant ∙ ap (λ q. first_shift s (attrs_of q) q) (sym (ap parts_under (plain_out c.args.n.now) ∙ sym (ap parts_as is)))

pub loop-part-preserved : goal.loop-part-preserved
loop-part-preserved c =
    let s = c.args.s.now in
    let items = c.as_slice-part-items.result.now in
    let is = c.as_slice-part-items.ensures.value in
    let a = (out-Part c.part-item.result).attr in
    let e = sym c.in_default.is ∙ c.least_below.ensures ∙ ap (λ ps. least_gain s (attrs_of (parts_as ps)) a (rows_below (plain c.deref.result.now))) (c.as_slice-in-loop-part.ensures.value ∙ sym is) ∙ ap (λ m. least_gain s (attrs_of (parts_as items)) a (rows_below (plain m))) c.deref.ensures in
    let step = next_part s (attrs_of (parts_as items)) items c.loop-part.part-index c.part-item.result None c.loop-part-test.true c.part-item.is e in
    sym step ∙ c.loop-part.invariant

pub returns : goal.returns
returns c =
    let s = c.args.s.now in
    let items = c.as_slice-part-items.result.now in
    let is = c.as_slice-part-items.ensures.value in
    no_more_parts s (attrs_of (parts_as items)) items c.loop-part.part-index c.loop-part-test.false ∙ c.loop-part.invariant
    ∙ ap (λ q. first_shift s (attrs_of q) q) (sym (ap parts_under (plain_out c.args.n.now) ∙ sym (ap parts_as is)))
