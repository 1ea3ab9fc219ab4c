use Rattle.std.proofs.Common.{subst}
use Rattle.std.specs.Arc.{arc_value}
use Rattle.std.proofs.lemmas.Bool.{and_parts}
use Rattle.be_model.specs.ByIds.{ids_differ}
use Rattle.be_model.specs.Schemas.{IsSchema}
use Rattle.be_shape.specs.Plain.{plain, rows_below}
use Rattle.be_shape.specs.Shape.{nothing, everywhere, is_placed_at}
use Rattle.be_shape.proofs.Depths.{steps_are_bounded, depth_is_bounded as bounded}
use Rattle.be_shape.proofs.laws.depth_is_bounded.Goals as goal

pub returns-clause-steps : goal.returns-clause-steps
returns-clause-steps c =
    let t = c.args.t.now in
    let s = arc_value t.schema in
    let n = plain t.root in steps_are_bounded s n (and_parts (everywhere (is_placed_at s) s nothing n) (ids_differ (rows_below n)) t.placed).0

pub returns-clause-depth : goal.returns-clause-depth
returns-clause-depth c =
    let t = c.args.t.now in
    let s = arc_value t.schema in
    let n = plain t.root in
    let form = subst IsSchema c.deref.ensures c.count.ensures.form in
    bounded s n form (and_parts (everywhere (is_placed_at s) s nothing n) (ids_differ (rows_below n)) t.placed).0 t.pruned t.lie
