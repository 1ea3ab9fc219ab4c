use Rattle.std.proofs.Common.{◌≡◌, true, not, ◌&&◌, ◌||◌, sym, ap, ◌∙◌, subst}
use Rattle.std.specs.List.{list_any}
use Rattle.be_model.specs.declared.paths.Hop.TheVariants.{Low, High}
use Rattle.be_model.specs.Forms.{attrs_rise}
use Rattle.be_model.specs.Rows.{has}
use Rattle.be_shape.specs.declared.nodes.Node.TheViews.{out-Node}
use Rattle.be_shape.specs.Plain.{parts_as, half_as, parts_under}
use Rattle.be_shape.specs.Shape.{attrs_of, is_here}
use Rattle.be_shape.specs.Children.{may_pass}
use Rattle.be_shape.proofs.Plains.{plain_out}
use Rattle.be_plan.specs.Merges.{passes_elsewhere, is_to, is_same}
use Rattle.be_plan.proofs.Stays.{elsewhere, or_parts}
use Rattle.be_plan.proofs.merges.passes_elsewhere.Goals as goal

pub returns-then-passes_other_part : goal.returns-then-passes_other_part
returns-then-passes_other_part c =
    let s = c.args.s.now in
    let above = c.args.above.now in
    let r = above.range in
    let row = c.args.row.now in
    let x = out-Node above.node.now in
    let rise = subst (λ m. attrs_rise (attrs_of (parts_under m)) ≡ true) (plain_out above.node.now) above.rise in
    let whole = ap (λ m. passes_elsewhere s above.hop r m row) (plain_out above.node.now) ∙ elsewhere s r row above.hop x.leaf (parts_as x.parts.items) (half_as x.low) (half_as x.high) rise in
    let a = sym (ap (λ ps. list_any (λ b. not (is_to b above.hop) && has b row) (attrs_of (parts_as ps))) c.as_slice.ensures.value) ∙ sym c.passes_other_part.ensures ∙ c.if-passes_other_part.true in
    sym (whole ∙ ap (λ t. t || (is_here (half_as x.low) && not (is_same Low above.hop) && may_pass s Low r row) || (is_here (half_as x.high) && not (is_same High above.hop) && may_pass s High r row)) a)

pub returns-then-passes_other_half : goal.returns-then-passes_other_half
returns-then-passes_other_half c =
    let s = c.args.s.now in
    let above = c.args.above.now in
    let r = above.range in
    let row = c.args.row.now in
    let x = out-Node above.node.now in
    let rise = subst (λ m. attrs_rise (attrs_of (parts_under m)) ≡ true) (plain_out above.node.now) above.rise in
    let whole = ap (λ m. passes_elsewhere s above.hop r m row) (plain_out above.node.now) ∙ elsewhere s r row above.hop x.leaf (parts_as x.parts.items) (half_as x.low) (half_as x.high) rise in
    let a = sym (ap (λ ps. list_any (λ b. not (is_to b above.hop) && has b row) (attrs_of (parts_as ps))) c.as_slice.ensures.value) ∙ sym c.passes_other_part.ensures ∙ c.if-passes_other_part.false in
    let b = sym c.passes_other_half.ensures ∙ c.if-passes_other_half.true in
    sym (whole ∙ or_parts _ _ _ _ _ _ a b (λ i. is_here (half_as x.high) && not (is_same High above.hop) && may_pass s High r row))

pub returns : goal.returns
returns c =
    let s = c.args.s.now in
    let above = c.args.above.now in
    let r = above.range in
    let row = c.args.row.now in
    let x = out-Node above.node.now in
    let rise = subst (λ m. attrs_rise (attrs_of (parts_under m)) ≡ true) (plain_out above.node.now) above.rise in
    let whole = ap (λ m. passes_elsewhere s above.hop r m row) (plain_out above.node.now) ∙ elsewhere s r row above.hop x.leaf (parts_as x.parts.items) (half_as x.low) (half_as x.high) rise in
    let a = sym (ap (λ ps. list_any (λ b. not (is_to b above.hop) && has b row) (attrs_of (parts_as ps))) c.as_slice.ensures.value) ∙ sym c.passes_other_part.ensures ∙ c.if-passes_other_part.false in
    let b = sym c.passes_other_half.ensures ∙ c.if-passes_other_half.false in
    sym (whole ∙ or_parts _ _ _ _ _ _ a b (sym c.passes_other_half-2.ensures))
