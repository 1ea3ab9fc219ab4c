use Rattle.std.proofs.Common.{◌≡◌, true, drop}
use Rattle.std.specs.List.{list_all}
use Rattle.be_shape.specs.Plain.{plain, parts_as, rows_in_parts}
use Rattle.be_shape.specs.Shape.{may_stand}
use Rattle.be_adjust.specs.Fits.{stays, fit}
use Rattle.be_adjust.proofs.fits.+fits.Given as goal

-- what is left for the parts not yet looked at
abbrev pub invariant-fit_parts-loop-part : goal.invariant-fit_parts-loop-part
invariant-fit_parts-loop-part l =
    (fit (stays l.s l.hop l.range (plain l.n)) l.left (rows_in_parts (parts_as (drop l.part-index l.parts))) ≡ fit (stays l.s l.hop l.range (plain l.n)) l.most (rows_in_parts (parts_as l.parts)))
    × (list_all (may_stand l.s) (rows_in_parts (parts_as (drop l.part-index l.parts))) ≡ true)
