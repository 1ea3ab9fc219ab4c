use Rattle.std.proofs.Common.{◌&&◌, sym, ap, ◌∙◌}
use Rattle.be_model.specs.declared.paths.Hop.TheVariants.{Low, High}
use Rattle.be_shape.specs.declared.nodes.Node.TheViews.{out-Node}
use Rattle.be_shape.specs.Plain.{parts_as, half_as}
use Rattle.be_shape.specs.Children.{roots_of, root_of}
use Rattle.be_plan.specs.Merges.{all_full}
use Rattle.be_plan.proofs.FullNodes.{full_out}
use Rattle.be_plan.proofs.fulls.are_full.Goals as goal

pub returns-then-not-parts : goal.returns-then-not-parts
returns-then-not-parts c =
    let x = out-Node c.args.n.now in
    let parts = sym (ap (λ ps. all_full (roots_of (parts_as ps))) c.as_slice.ensures.value) ∙ sym c.are_parts_full-parts.ensures ∙ c.if-not-parts.true in
    sym (full_out c.args.n.now ∙ ap (λ b. b && all_full (root_of Low (half_as x.low)) && all_full (root_of High (half_as x.high))) parts)

pub returns-then-not-low : goal.returns-then-not-low
returns-then-not-low c =
    let x = out-Node c.args.n.now in
    let parts = sym (ap (λ ps. all_full (roots_of (parts_as ps))) c.as_slice.ensures.value) ∙ sym c.are_parts_full-parts.ensures ∙ c.if-not-parts.false in
    let low = sym (c.is_half_full-low.ensures Low) ∙ c.if-not-low.true in
    sym (full_out c.args.n.now ∙ ap (λ b. b && all_full (root_of Low (half_as x.low)) && all_full (root_of High (half_as x.high))) parts ∙ ap (λ b. b && all_full (root_of High (half_as x.high))) low)

pub returns : goal.returns
returns c =
    let x = out-Node c.args.n.now in
    let parts = sym (ap (λ ps. all_full (roots_of (parts_as ps))) c.as_slice.ensures.value) ∙ sym c.are_parts_full-parts.ensures ∙ c.if-not-parts.false in
    let low = sym (c.is_half_full-low.ensures Low) ∙ c.if-not-low.false in
    sym (full_out c.args.n.now ∙ ap (λ b. b && all_full (root_of Low (half_as x.low)) && all_full (root_of High (half_as x.high))) parts ∙ ap (λ b. b && all_full (root_of High (half_as x.high))) low ∙ sym (c.is_half_full-high.ensures High))
