use Rattle.std.proofs.Common.{arith}
use Rattle.std.proofs.lemmas.Int.{ints, to_z-of_z}
use Rattle.std.proofs.lemmas.Grind.{common_steps}
use Rattle.be_cover.proofs.pieces.put_pieces.Goals as goal

pub returns-in-Lt : goal.returns-in-Lt
returns-in-Lt c = grind (arith, common_steps, to_z-of_z)

pub returns-in-Gt : goal.returns-in-Gt
returns-in-Gt c = search (arith, ints, to_z-of_z)
