use Rattle.std.proofs.Common.{◌≡◌, false, true, sym, ◌∙◌}
use Rattle.std.proofs.lemmas.Result.{err_from_is_err_and}
use Rattle.be_io.specs.FileLines.{means_nothing}
use Rattle.be_load_files.proofs.SoFar.{row_more, nothing_more, row_refused}
use Rattle.be_load_files.proofs.AreTables.{AreTable-SoFar}
use Rattle.be_load_files.proofs.read.read_table.Goals as goal

pub returns-in_err-read_row-clause-exact : goal.returns-in_err-read_row-clause-exact
returns-in_err-read_row-clause-exact c =
    let something : means_nothing c.first_line.result.0.now ≡ false = sym c.means_nothing.ensures ∙ c.if-not-means_nothing.true in
    let p = err_from_is_err_and c.from_residual.result c.from_residual.ensures.1 in
    rw (p.1, p.2)
    (row_refused c.args.schema.now c.args.text.now c.loop-rest.rest.now c.first_line.result.0.now c.first_line.result.1.now c.loop-rest.number c.loop-rest.table.rows.items c.read_row.new.self c.in_err-read_row.field-0.0
    c.first_line.ensures.lines something c.in_err-read_row.ensures c.loop-rest.invariant.so_far)

pub loop-rest-preserved-in_ok-read_row : goal.loop-rest-preserved-in_ok-read_row
loop-rest-preserved-in_ok-read_row c =
    let something : means_nothing c.first_line.result.0.now ≡ false = sym c.means_nothing.ensures ∙ c.if-not-means_nothing.true in
    record {
      so_far = row_more c.args.schema.now c.args.text.now c.loop-rest.rest.now c.first_line.result.0.now c.first_line.result.1.now c.loop-rest.number c.loop-rest.table.rows.items c.read_row.new.self.rows.items
          c.first_line.ensures.lines c.first_line.ensures.shorter something c.in_ok-read_row.ensures.0 c.loop-rest.invariant.so_far;
      names = c.in_ok-read_row.ensures.1;
    }

pub loop-rest-preserved : goal.loop-rest-preserved
loop-rest-preserved c =
    let nothing : means_nothing c.first_line.result.0.now ≡ true = sym c.means_nothing.ensures ∙ c.if-not-means_nothing.false in
    record {
      so_far = nothing_more c.args.schema.now c.args.text.now c.loop-rest.rest.now c.first_line.result.0.now c.first_line.result.1.now c.loop-rest.number c.loop-rest.table.rows.items
          c.first_line.ensures.lines c.first_line.ensures.shorter nothing c.loop-rest.invariant.so_far;
      names = c.loop-rest.invariant.names;
    }

pub returns-clause-table : goal.returns-clause-table
returns-clause-table c =
    (AreTable-SoFar c.args.schema.now c.args.text.now c.loop-rest.rest.now c.loop-rest.number c.loop-rest.table.rows.items c.loop-rest.invariant.so_far).table

pub returns-clause-lies : goal.returns-clause-lies
returns-clause-lies c =
    (AreTable-SoFar c.args.schema.now c.args.text.now c.loop-rest.rest.now c.loop-rest.number c.loop-rest.table.rows.items c.loop-rest.invariant.so_far).lie

pub returns-clause-few : goal.returns-clause-few
returns-clause-few c =
    (AreTable-SoFar c.args.schema.now c.args.text.now c.loop-rest.rest.now c.loop-rest.number c.loop-rest.table.rows.items c.loop-rest.invariant.so_far).few
