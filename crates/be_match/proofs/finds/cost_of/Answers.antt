use Rattle.std.proofs.Common.{length, None, sym, ap, ◌∙◌, subst}
use Rattle.std.specs.Arc.{arc_value}
use Rattle.be_model.specs.Schemas.{IsSchema}
use Rattle.be_shape.specs.Plain.{plain}
use Rattle.be_shape.specs.Search.{visited, all_of}
use Rattle.be_match.specs.Leaves.{AreCountable}
use Rattle.be_match.proofs.Within.{searched, countable, within_bound}
use Rattle.be_match.proofs.finds.cost_of.Goals as goal

pub node_cost-requires-clause-countable : goal.node_cost-requires-clause-countable
node_cost-requires-clause-countable c =
    let t = c.args.t.now in
    let s = arc_value t.schema in
    let e = c.args.e.now in
    let n = plain t.root in
    let w = searched t e (subst IsSchema c.deref.ensures c.count.ensures.form) c.items.ensures.form c.requires in
    subst (λ a. AreCountable (visited a e None n)) (sym c.deref-2.ensures) (countable s e n w)

pub returns-clause-bound : goal.returns-clause-bound
returns-clause-bound c =
    let t = c.args.t.now in
    let s = arc_value t.schema in
    let e = c.args.e.now in
    let n = plain t.root in
    let w = searched t e (subst IsSchema c.deref.ensures c.count.ensures.form) c.items.ensures.form c.requires in
    within_bound s e n c.node_cost.result w (ap (λ x. x.visits) c.node_cost.ensures ∙ ap (λ a. length (visited a e None n)) c.deref-2.ensures)
    (ap (λ x. x.tested) c.node_cost.ensures ∙ ap (λ a. length (all_of (visited a e None n))) c.deref-2.ensures)
