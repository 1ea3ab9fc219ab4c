use Rattle.std.proofs.Common.{◌≡◌, true, take}
use Rattle.std.specs.List.{list_all}
use Rattle.be_shape.specs.Plain.{plain}
use Rattle.be_adjust.specs.Fits.{stays}
use Rattle.be_adjust.proofs.fits.fit_leaf.Given as goal

-- the rows so far stay
abbrev pub invariant-loop-place : goal.invariant-loop-place
invariant-loop-place l = list_all (stays l.s l.hop l.range (plain l.n)) (take l.place l.rows) ≡ true
