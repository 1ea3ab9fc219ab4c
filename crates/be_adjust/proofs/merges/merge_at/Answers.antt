use Rattle.std.proofs.Common.{sym, ap, ◌∙◌, subst}
use Rattle.be_shape.specs.Plain.{plain}
use Rattle.be_shape.specs.Paths.{child, walk}
use Rattle.be_shape.specs.Steps.{merged, replaced}
use Rattle.be_shape.proofs.Reshaping.{changed_is, taken_out, put_back}
use Rattle.be_adjust.specs.Fits.{HasRows}
use Rattle.be_adjust.proofs.Merged.{merge_there}
use Rattle.be_adjust.proofs.merges.merge_at.Goals as goal

pub merge_child-requires : goal.merge_child-requires
merge_child-requires c =
    let n = plain c.args.root.now in
    let hops = c.args.hops.now in
    let e = merge_there c.args.last (walk hops n) c.requires in
    let is = taken_out hops n e.0 (plain c.make-here.result) (plain c.swap_at.new.other) e.1 c.swap_at.ensures.taken in
    subst (λ m. HasRows c.args.last m (child c.args.last m)) (sym is) e.2

pub returns : goal.returns
returns c =
    let n = plain c.args.root.now in
    let hops = c.args.hops.now in
    let last = c.args.last in
    let e = merge_there last (walk hops n) c.requires in
    let is = taken_out hops n e.0 (plain c.make-here.result) (plain c.swap_at.new.other) e.1 c.swap_at.ensures.taken in
    λ s. put_back hops n e.0 (plain c.make-here.result) (plain c.merge_child.new.n) (plain c.swap_at.new.n) (plain c.swap_at-2.new.n) e.1 c.swap_at.ensures.put c.swap_at-2.ensures.put
    ∙ ap (λ m. replaced hops m n) (c.merge_child.ensures ∙ ap (merged last) is) ∙ sym (changed_is (λ k m. merged last m) s hops n e.0 e.1)
