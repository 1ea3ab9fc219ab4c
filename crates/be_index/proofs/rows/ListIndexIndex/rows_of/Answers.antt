-- The rows of the session are put.
use Rattle.std.proofs.Common.{◌==◌, sym, ap, ◌∙◌}
use Rattle.std.specs.Prelude.{filter}
use Rattle.be_model.specs.declared.changes.Row.{Row}
use Rattle.be_model.specs.ByIds.{map_in, rows_of, session_rows}
use Rattle.be_model.proofs.RowsByIds.{rows_of-filter}
use Rattle.be_index.proofs.Adding.{rows_added, as_many}
use Rattle.be_index.specs.Rows.{PlainIndex, is_wanted}
use Rattle.be_index.specs.declared.wanted.Wanted.TheVariants.{Of}
use Rattle.be_index.proofs.Searches.{ok_puts, err_some}
use Rattle.be_index.proofs.rows.ListIndexIndex.rows_of.Goals as goal

pub returns-clause-found : goal.returns-clause-found
returns-clause-found c =
    let k = c.args.session.0 in
    let m = map_in c.self.inside.rows.entries in
    ok_puts c.put_rows.result (session_rows k c.args.self.now.rows) (filter (is_wanted (Of c.args.session)) (rows_of m)) c.args.found.now.rows c.put_rows.new.found.rows
    (sym (rows_of-filter (λ (row : Row). row.session.0 == k) m) ∙ ap (λ (i : PlainIndex). session_rows k i.rows) c.self.view_is) (rows_added c.put_rows.result _ _ _ c.put_rows.ensures.put)

pub returns-clause-some : goal.returns-clause-some
returns-clause-some c =
    let k = c.args.session.0 in
    let m = map_in c.self.inside.rows.entries in
    err_some c.put_rows.result (session_rows k c.args.self.now.rows) (filter (is_wanted (Of c.args.session)) (rows_of m))
    (sym (rows_of-filter (λ (row : Row). row.session.0 == k) m) ∙ ap (λ (i : PlainIndex). session_rows k i.rows) c.self.view_is) (as_many c.put_rows.result (λ row. row) 0 _ c.put_rows.ensures.some)
