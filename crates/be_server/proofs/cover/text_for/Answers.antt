-- The asked row is one of the rows, each of which lies in the schema.
use Rattle.std.proofs.Common.{◌≡◌, true, sym, ap, ◌∙◌}
use Rattle.std.specs.Option.{option_copied}
use Rattle.std.proofs.lemmas.List.Sums.{AllPass-from_list_all}
use Rattle.be_model.specs.declared.changes.Row.{Row}
use Rattle.be_model.specs.Lies.{row_lies}
use Rattle.be_model.proofs.Lists.{found_has}
use Rattle.be_server.specs.Cover.{is_named}
use Rattle.be_server.proofs.cover.text_for.Goals as goal

pub lines_for-requires-clause-asked : goal.lines_for-requires-clause-asked
lines_for-requires-clause-asked c =
    let s = c.args.schema.now in
    found_has (λ (row : Row). row_lies s row ≡ true) (is_named c.args.name.now) c.args.rows.now c.in-Some.asked.now (AllPass-from_list_all (row_lies s) c.args.rows.now c.requires)
    (sym c.row_named.ensures ∙ ap option_copied c.in-Some.is)
