-- The id is new, and the ids are below the next one then.
use Rattle.std.proofs.Common.{◌+◌, OnOk, sym, subst}
use Rattle.std.specs.Arc.{arc_value}
use Rattle.be_model.specs.Rows.{id_of}
use Rattle.be_model.specs.ByIds.{AllBelow}
use Rattle.be_model.proofs.RisingIds.{above_is_new}
use Rattle.worked_copy.proofs.Below.{below_next}
use Rattle.worked_copy.proofs.indexes.put.Goals as goal
use Rattle.worked_copy.proofs.indexes.put.Goals.{in-Ok, in-Err}

pub insert-requires-clause-new : goal.insert-requires-clause-new
insert-requires-clause-new g c =
    let n = id_of (arc_value c.args.row) in
    above_is_new n n (g.I.Index.rows c.args.index.now) (λ i. n) c.requires.below

pub returns-clause-below : goal.returns-clause-below
returns-clause-below g c =
    let row = arc_value c.args.row in
    let goal = λ (r : _). OnOk r (AllBelow (id_of row + 1) (g.I.Index.rows c.insert.new.self)) in
    elim c.match-insert.branch [
      | in-Ok w ↦ subst goal (sym w.result-is) (below_next row (g.I.Index.rows c.args.index.now) (g.I.Index.rows c.insert.new.self) c.requires.below w.in-Ok.ensures.put)
      | in-Err w ↦ subst goal (sym w.result-is) tt
    ]
