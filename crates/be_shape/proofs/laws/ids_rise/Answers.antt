use Rattle.be_model.specs.ByIds.{ids_differ}
use Rattle.be_model.proofs.Attributes.{and_right}
use Rattle.be_model.proofs.RowsByIds.{ids_rise}
use Rattle.std.specs.Arc.{arc_value}
use Rattle.be_shape.specs.Plain.{plain, rows_below}
use Rattle.be_shape.specs.Shape.{nothing, everywhere, is_placed_at}
use Rattle.be_shape.proofs.laws.ids_rise.Goals as goal

pub returns : goal.returns
returns c =
    let t = c.args.t.now in
    let s = arc_value t.schema in
    let n = plain t.root in ids_rise (rows_below n) (and_right (everywhere (is_placed_at s) s nothing n) (ids_differ (rows_below n)) t.placed)
