use Rattle.std.proofs.Common.{Some, option_map, sym, ap, ◌∙◌, arith}
use Rattle.be_model.specs.declared.paths.Hop.TheVariants.{Part}
use Rattle.be_shape.specs.declared.nodes.Node.TheViews.{out-Node}
use Rattle.be_shape.specs.Plain.{plain, node, parts_as, half_as}
use Rattle.be_shape.specs.Paths.{child}
use Rattle.be_shape.specs.Steps.{without_child}
use Rattle.be_shape.specs.Swaps.{place_on}
use Rattle.be_shape.proofs.Plains.{plain_out, part_out, plain_roll}
use Rattle.be_shape.proofs.Exchanges.{found, missing}
use Rattle.be_adjust.proofs.Merged.{none_off, part_off}
use Rattle.be_adjust.proofs.merges.detach.Goals as goal

pub returns-in_err-place-in-Part-clause-child : goal.returns-in_err-place-in-Part-clause-child
returns-in_err-place-in-Part-clause-child c =
    let x = out-Node c.args.n.now in
    let a = c.in-Part.a in
    let gone = missing (parts_as x.parts.items) a (ap (λ ps. place_on a (parts_as ps)) (sym c.as_slice.ensures.value) ∙ sym c.place_on.ensures ∙ c.in_err-place-in-Part.was) in
    ap (option_map (λ b. plain b.value)) c.from_residual.ensures ∙ sym (ap (λ h. child h (plain c.args.n.now)) c.in-Part.is ∙ ap (child (Part a)) (plain_out c.args.n.now) ∙ gone)

pub returns-in_err-place-in-Part-clause-rest : goal.returns-in_err-place-in-Part-clause-rest
returns-in_err-place-in-Part-clause-rest c =
    let x = out-Node c.args.n.now in
    let a = c.in-Part.a in
    let gone = missing (parts_as x.parts.items) a (ap (λ ps. place_on a (parts_as ps)) (sym c.as_slice.ensures.value) ∙ sym c.place_on.ensures ∙ c.in_err-place-in-Part.was) in
    sym (ap (λ h. without_child h (plain c.args.n.now)) c.in-Part.is ∙ ap (without_child (Part a)) (plain_out c.args.n.now) ∙ ap (λ ps. node x.leaf ps (half_as x.low) (half_as x.high)) (none_off (parts_as x.parts.items) a gone) ∙ sym (plain_out c.args.n.now))

pub remove-requires : goal.remove-requires
remove-requires c =
    let x = out-Node c.args.n.now in
    let f = found x.parts.items c.in_ok-place-in-Part.place c.in-Part.a (ap (λ ps. place_on c.in-Part.a (parts_as ps)) (sym c.as_slice.ensures.value) ∙ sym c.place_on.ensures ∙ c.in_ok-place-in-Part.was) in
    omega (arith, f.within, x.parts.ok.0)

pub returns-in_ok-place-in-Part-clause-child : goal.returns-in_ok-place-in-Part-clause-child
returns-in_ok-place-in-Part-clause-child c =
    let x = out-Node c.args.n.now in
    let a = c.in-Part.a in
    let f = found x.parts.items c.in_ok-place-in-Part.place a (ap (λ ps. place_on a (parts_as ps)) (sym c.as_slice.ensures.value) ∙ sym c.place_on.ensures ∙ c.in_ok-place-in-Part.was) in
    sym (ap (λ h. child h (plain c.args.n.now)) c.in-Part.is ∙ ap (child (Part a)) (plain_out c.args.n.now) ∙ f.here c.remove.result c.remove.ensures.value ∙ ap (λ y. Some y.1) (part_out c.remove.result))

pub returns-in_ok-place-in-Part-clause-rest : goal.returns-in_ok-place-in-Part-clause-rest
returns-in_ok-place-in-Part-clause-rest c =
    let x = out-Node c.args.n.now in
    let a = c.in-Part.a in
    let i = c.in_ok-place-in-Part.place in
    let off = part_off x.parts.items i a (ap (λ ps. place_on a (parts_as ps)) (sym c.as_slice.ensures.value) ∙ sym c.place_on.ensures ∙ c.in_ok-place-in-Part.was) in
    plain_roll _ ∙ ap (λ ps. node x.leaf (parts_as ps) (half_as x.low) (half_as x.high)) c.remove.ensures.items ∙ ap (λ ps. node x.leaf ps (half_as x.low) (half_as x.high)) off
    ∙ sym (ap (λ h. without_child h (plain c.args.n.now)) c.in-Part.is ∙ ap (without_child (Part a)) (plain_out c.args.n.now))
