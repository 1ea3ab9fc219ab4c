use Rattle.std.proofs.Common.{◌≡◌, true, sym, ap, ◌∙◌, subst}
use Rattle.be_shape.specs.declared.nodes.Node.TheViews.{out-Node}
use Rattle.be_shape.specs.Plain.{node, parts_as, half_as}
use Rattle.be_shape.proofs.Plains.{plain_out, plain_roll}
use Rattle.be_remove.specs.Taken.{is_first, without_bare}
use Rattle.be_remove.proofs.FirstParts.{first_within, part_without}
use Rattle.be_remove.proofs.parts.drop_bare.Goals as goal

pub drop_part-requires : goal.drop_part-requires
drop_part-requires c =
    let ps = (out-Node c.args.n.now).parts.items in
    first_within c.in-Part.a ps c.in-Some.place (subst (λ z. is_first c.in-Part.a c.in-Some.place (parts_as z) ≡ true) c.as_slice.ensures.value c.in-Some.ensures)

pub returns-in-Some : goal.returns-in-Some
returns-in-Some c =
    let x = out-Node c.args.n.now in
    let a = c.in-Part.a in
    let i = c.in-Some.place in
    let first : is_first a i (parts_as x.parts.items) ≡ true = subst (λ z. is_first a i (parts_as z) ≡ true) c.as_slice.ensures.value c.in-Some.ensures in
    plain_roll _ ∙ ap (λ p. node x.leaf p (half_as x.low) (half_as x.high)) c.drop_part.ensures ∙ part_without a x.leaf (parts_as x.parts.items) (half_as x.low) (half_as x.high) i first
    ∙ ap (λ h. without_bare h (node x.leaf (parts_as x.parts.items) (half_as x.low) (half_as x.high))) (sym c.in-Part.is) ∙ ap (without_bare c.args.hop) (sym (plain_out c.args.n.now))
