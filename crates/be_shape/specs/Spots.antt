-- Where a node stands, as what is known of it.
use Rattle.std.specs.Prelude.{◌<◌, List, length, drop}
use Rattle.be_base.specs.declared.names.AttrNo.{AttrNo}
use Rattle.be_model.specs.declared.paths.Hop.{Hop}
use Rattle.be_model.specs.declared.paths.Hop.TheVariants.{Part, Low, High}
use Rattle.be_shape.specs.Shape.{Known, known}
use Rattle.be_shape.specs.declared.spots.Spot.{Spot}

abbrev pub known_of : Spot → Known
known_of k = known k.range k.used.items

-- the attributes used above a step: that of a part isn't
abbrev pub used_above : Hop → List AttrNo → List AttrNo
used_above (Part a) used = drop 1 used
used_above Low used = used
used_above High used = used

abbrev pub CanLeave : Hop → List AttrNo → Type 0
CanLeave (Part a) used = 0 < length used
CanLeave Low used = Unit {0}
CanLeave High used = Unit {0}
