use Rattle.be_shape.specs.Spots.{known_of}
use Rattle.be_insert.proofs.LevelsLeft.{levels_left}
use Rattle.be_insert.proofs.splits.+settle.Given as goal

-- how far the rows can still be split
abbrev pub decreases-settle : goal.decreases-settle
decreases-settle l = levels_left l.s.now (known_of l.k.now)
