-- Each of the rows lies in the schema.
use Rattle.std.proofs.Common.{◌≡◌, ◌<◌, length, get_or, sym, ap, ◌∙◌, subst}
use Rattle.std.specs.Arc.{arc_value}
use Rattle.std.proofs.lemmas.List.{get_or-map, length-map}
use Rattle.be_model.specs.Lies.{row_lies}
use Rattle.be_model.specs.Rows.{rows_in}
use Rattle.be_protocol.proofs.texts.push_rows.Goals as goal

pub push_row-requires : goal.push_row-requires
push_row-requires c =
    let rows = c.args.rows.now in
    let i = c.loop-row.row-index in
    let row = c.row-item.result in
    let there : get_or (rows_in rows) i (arc_value row) ≡ arc_value (get_or rows i row) = get_or-map (λ x. arc_value x) rows i row (arc_value row) c.loop-row-test.true in
    let within : i < length (rows_in rows) = subst (λ n. i < n) (sym (length-map rows (λ x. arc_value x))) c.loop-row-test.true in
    ap (row_lies c.args.schema.now) (c.deref.ensures ∙ ap (λ x. arc_value x) c.row-item.is ∙ sym there) ∙ c.requires i (arc_value row) within
