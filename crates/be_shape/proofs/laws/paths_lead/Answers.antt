use Rattle.std.specs.Arc.{arc_value}
use Rattle.be_model.specs.ByIds.{ids_differ}
use Rattle.std.proofs.lemmas.Bool.{and_parts}
use Rattle.be_shape.specs.Plain.{plain, rows_below}
use Rattle.be_shape.specs.Shape.{nothing, everywhere, is_placed_at}
use Rattle.be_shape.proofs.NodeList.{paths_lead as lead}
use Rattle.be_shape.proofs.laws.paths_lead.Goals as goal

pub returns : goal.returns
returns c =
    let t = c.args.t.now in
    let s = arc_value t.schema in
    let n = plain t.root in lead s n (and_parts (everywhere (is_placed_at s) s nothing n) (ids_differ (rows_below n)) t.placed).0
