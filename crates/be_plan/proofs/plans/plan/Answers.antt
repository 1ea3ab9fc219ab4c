use Rattle.std.proofs.Common.{[], ap, ◌∙◌}
use Rattle.std.specs.Arc.{arc_value}
use Rattle.be_shape.specs.Plain.{plain}
use Rattle.be_shape.specs.Shape.{nothing}
use Rattle.be_shape.specs.NodeList.{nodes_from}
use Rattle.be_shape.specs.Spots.{known_of}
use Rattle.be_shape.proofs.Roots.{root_of}
use Rattle.be_plan.specs.Best.{below_after}
use Rattle.be_plan.proofs.Places.{at_root, at_moved}
use Rattle.be_plan.proofs.Seeking.{plan_is}
use Rattle.be_plan.proofs.plans.plan.Goals as goal

pub seek-requires : goal.seek-requires
seek-requires c =
    let t = c.args.t.now in
    let s = arc_value t.schema in
    let n = plain t.root in at_moved s n [] c.make.result nothing (known_of c.root.result) n (at_root s n (root_of t)) c.make.ensures c.root.ensures

pub returns : goal.returns
returns c =
    let t = c.args.t.now in
    let s = arc_value t.schema in
    let n = plain t.root in
    ap (λ b. b.step) (c.in_ok-seek.ensures.best ∙ ap (λ p. below_after s t.alpha n (nodes_from s p (known_of c.root.result) n) c.none-best.result) c.make.ensures
    ∙ ap (λ k. below_after s t.alpha n (nodes_from s [] k n) c.none-best.result) c.root.ensures)
    ∙ plan_is s t.alpha n c.none-best.result c.none-best.ensures.sought c.none-best.ensures.step
