-- Nothing changes.
use Rattle.std.proofs.Common.{refl, arith}
use Rattle.be_board.proofs.local.LocalBoardBoard.tend.Goals as goal

pub returns : goal.returns
returns g c = (0, omega arith, refl, refl)
