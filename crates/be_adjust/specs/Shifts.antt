-- A shift of a row from one part of a node to another.
use Rattle.std.specs.Prelude.{◌≡◌, ℕ, true, List, [], ◌∷◌, ◌++◌, Option, None, Some, IsPermutation}
use Rattle.std.specs.List.{Contains}
use Rattle.be_base.specs.declared.names.AttrNo.{AttrNo}
use Rattle.be_model.specs.declared.changes.Row.{Row}
use Rattle.be_model.specs.declared.paths.Hop.{Hop}
use Rattle.be_model.specs.declared.paths.Hop.TheVariants.{Part}
use Rattle.be_model.specs.Schemas.{Attributes}
use Rattle.be_shape.specs.Plain.{Plain, rows_below}
use Rattle.be_shape.specs.Shape.{Known, spans_inside, may_stand}
use Rattle.be_shape.specs.Paths.{child}
use Rattle.be_shape.specs.Right.{IsRight}
use Rattle.be_shape.specs.Steps.{rows_at, other_child, can_shift}
use Rattle.be_adjust.specs.Finds.{may_shift}

-- a row of the id stands below the first part, and has the attribute of the second
pub record MayShift (from to : AttrNo) (id : ℕ) (n : Plain) (row : Row) : Type 0 where
  pub stands : can_shift from to id n ≡ true
  pub there : Contains (rows_at (Part from) n) row
  pub passes : may_shift to id row ≡ true

abbrev pub MayShiftAt : AttrNo → AttrNo → ℕ → Option Plain → Row → Type 0
MayShiftAt from to id None row = ⊥
MayShiftAt from to id (Some n) row = MayShift from to id n row

-- the child at the end of a step has a row more, but for rows that were handed back
pub record PlacedBelow (s : Attributes) (below : Known) (hop : Hop) (row : Row) (n w : Plain) (back : List Row) : Type 0 where
  pub was : Plain
  pub there : child hop n ≡ Some was
  pub now : Plain
  pub is : w ≡ other_child hop now n
  pub right : IsRight s below now
  pub rows : IsPermutation (rows_below was ++ row ∷ []) (rows_below now ++ back)

-- the child is there, and may take the row
pub record TakesRow (s : Attributes) (below : Known) (row : Row) (m : Plain) : Type 0 where
  pub right : IsRight s below m
  pub may : may_stand s row ≡ true
  pub inside : spans_inside s below.range row ≡ true

abbrev pub PartTakes : Attributes → Known → Row → Option Plain → Type 0
PartTakes s below row None = ⊥
PartTakes s below row (Some m) = TakesRow s below row m
