-- All rows are put.
use Rattle.std.proofs.Common.{ap, ◌∙◌}
use Rattle.be_model.specs.ByIds.{map_in, rows_of}
use Rattle.be_index.proofs.Adding.{rows_added}
use Rattle.be_index.specs.Rows.{PlainIndex, is_wanted}
use Rattle.be_index.specs.declared.wanted.Wanted.TheVariants.{All}
use Rattle.std.specs.Prelude.{filter}
use Rattle.be_index.proofs.Searches.{ok_puts, filter_all}
use Rattle.be_index.proofs.rows.ListIndexIndex.all.Goals as goal

pub returns-clause-found : goal.returns-clause-found
returns-clause-found c =
    let rows = rows_of (map_in c.self.inside.rows.entries) in
    ok_puts c.put_rows.result (rows_of c.args.self.now.rows) (filter (is_wanted All) rows) c.args.found.now.rows c.put_rows.new.found.rows
    (filter_all rows ∙ ap (λ (i : PlainIndex). rows_of i.rows) c.self.view_is) (rows_added c.put_rows.result _ _ _ c.put_rows.ensures.put)
