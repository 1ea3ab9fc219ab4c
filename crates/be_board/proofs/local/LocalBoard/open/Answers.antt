use Rattle.std.proofs.Common.{refl}
use Rattle.be_board.proofs.LocalStates.{state_opened}
use Rattle.be_board.proofs.local.LocalBoard.open.Goals as goal

pub returns : goal.returns
returns g c =
    state_opened {X = g.row.I.Denot} (g.I.Index.schema c.args.index) (g.I.Index.schema c.in_ok-open.field-0.index)
    (record { list = c.in_ok-open.field-0.list; index = c.in_ok-open.field-0.index; letters = c.in_ok-make.field-0; reads = 0; fulls = 0; empties = 0 })
    c.args.rows.items c.requires.table c.in_ok-open.ensures.schema c.in_ok-open.ensures.list c.in_ok-make.ensures refl refl refl
