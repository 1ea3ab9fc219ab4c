-- How much of a row a place tells.
use Rattle.std.specs.Prelude.{Bool, true, false}
use Rattle.be_shape.specs.declared.glances.Extent.{Extent}
use Rattle.be_shape.specs.declared.glances.Extent.TheVariants.{Whole, Few, Part}
use Rattle.be_shape.specs.declared.small_sets.Told.{Told}
use Rattle.be_shape.specs.declared.small_sets.Told.TheVariants.{AsWhole, AsFew, AsPart, IsSet}

-- how much of the row its tests are
abbrev pub extent_of : Told → Extent
extent_of AsWhole = Whole
extent_of AsFew = Few
extent_of AsPart = Part
extent_of IsSet = Few

-- an event of single values that passes the lanes satisfies the row
abbrev pub is_sure : Told → Bool
is_sure AsWhole = true
is_sure AsFew = false
is_sure AsPart = false
is_sure IsSet = true

-- the lanes behind the first are of the gaps of a set, and of no test
abbrev pub is_set : Told → Bool
is_set AsWhole = false
is_set AsFew = false
is_set AsPart = false
is_set IsSet = true
