use Rattle.std.proofs.Common.{◌≡◌, Some, subst}
use Rattle.be_model.specs.ByIds.{ids_differ, row_at}
use Rattle.be_model.proofs.Attributes.{and_right}
use Rattle.be_model.proofs.RowsByIds.{row_found, found_row}
use Rattle.std.specs.Arc.{arc_value}
use Rattle.be_shape.specs.Plain.{plain, rows_below, contents}
use Rattle.be_shape.specs.Shape.{nothing, everywhere, is_placed_at}
use Rattle.be_shape.proofs.laws.rows_are_found.Goals as goal

pub returns : goal.returns
returns c =
    let t = c.args.t.now in
    let s = arc_value t.schema in
    let n = plain t.root in
    let differ = and_right (everywhere (is_placed_at s) s nothing n) (ids_differ (rows_below n)) t.placed in
    λ id row. (found_row (rows_below n) id row, λ h. subst (λ i. row_at i (contents n) ≡ Some row) h.1 (row_found (rows_below n) row differ h.0))
