-- The row is put last.
use Rattle.std.proofs.Common.{ap, ◌∙◌}
use Rattle.std.specs.Arc.{arc_value}
use Rattle.be_model.specs.Rows.{id_of}
use Rattle.be_copy.proofs.Kept.{next_is_new, put_next}
use Rattle.be_copy.proofs.copies.add_row.Goals as goal

pub put_row-requires-clause-new : goal.put_row-requires-clause-new
put_row-requires-clause-new g c =
    next_is_new c.args.log.now.list (g.I.Index.rows c.args.index.now) (id_of (arc_value c.in_ok-row.row)) c.requires.kept.live (ap id_of c.in_ok-row.ensures ∙ c.requires.id)

pub returns-clause-rows : goal.returns-clause-rows
returns-clause-rows g c =
    put_next c.put_row.result c.args.log.now.list (g.I.Index.rows c.args.index.now) (g.I.Index.rows c.put_row.new.index) (arc_value c.in_ok-row.row) (arc_value c.args.row.now)
    c.requires.kept.live c.in_ok-row.ensures c.requires.id c.put_row.ensures.put
