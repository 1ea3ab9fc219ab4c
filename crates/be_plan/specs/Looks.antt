-- What a look through some nodes finds.
use Rattle.std.specs.Prelude.{◌≡◌, true, List, Option, Some, IfSome}
use Rattle.be_model.specs.declared.changes.Row.{Row}
use Rattle.be_model.specs.declared.paths.Hop.{Hop}
use Rattle.be_model.specs.declared.paths.Step.{Step}
use Rattle.be_model.specs.Schemas.{Attributes}
use Rattle.be_shape.specs.Plain.{Plain, leaf_of}
use Rattle.be_shape.specs.Paths.{walk}
use Rattle.be_shape.specs.Steps.{stands}

-- where a step was found, it stands in the tree
abbrev pub Stands : Attributes → Plain → Option Step → Type 0
Stands s root found = IfSome found (λ step. stands s step root ≡ true)

-- the way leads from the node to one with this leaf
abbrev pub LeadsTo : List Hop → Plain → List Row → Type 0
LeadsTo way n leaf = (m : Plain) × (walk way n ≡ Some m) × (leaf_of m ≡ leaf)
