-- What a place of a leaf has.
use Rattle.std.specs.Prelude.{◌≡◌, ℕ, ◌/◌, ◌%◌, Option, Some, None, IfSome, nat_lt, if◌then◌else◌}
use Rattle.std.specs.Arc.{arc_value}
use Rattle.be_model.specs.declared.changes.Row.{Row}
use Rattle.be_model.specs.Forms.{IsConj}
use Rattle.be_model.specs.Rows.{id_of}
use Rattle.be_shape.specs.declared.held.Held.{Held}
use Rattle.be_shape.specs.declared.held.Held.TheVariants.{Blank, ToldWhole, ToldSet, ToldFew, ToldPart}
use Rattle.be_shape.specs.declared.lanes.LaneAttrs.{LaneAttrs}
use Rattle.be_shape.specs.declared.lanes.LaneSlots.{LaneSlots}
use Rattle.be_shape.specs.declared.small_sets.Told.{Told}
use Rattle.be_shape.specs.declared.small_sets.Told.TheVariants.{AsWhole, AsFew, AsPart, IsSet}
use Rattle.be_shape.specs.FewTests.{few_told}
use Rattle.be_shape.specs.Glances.{glance, glance_of}
use Rattle.be_shape.specs.Lanes.{Few, HoldLanes, free}
use Rattle.be_shape.specs.SetNotes.{LosesNone}
use Rattle.be_shape.specs.Told.{extent_of}

-- the id as a place has it: where 24 bits don't tell it, their greatest number
abbrev pub short_id : ℕ → ℕ
short_id id = if nat_lt id 16777215 then id else 16777215

abbrev pub row_of : Held → Option Row
row_of Blank = None
row_of (ToldWhole attrs note slots row) = Some (arc_value row)
row_of (ToldSet attrs note slots row) = Some (arc_value row)
row_of (ToldFew attrs note slots row) = Some (arc_value row)
row_of (ToldPart attrs note slots row) = Some (arc_value row)

-- the id and the set note together
abbrev pub note_of : Held → ℕ
note_of Blank = 0
note_of (ToldWhole attrs note slots row) = note
note_of (ToldSet attrs note slots row) = note
note_of (ToldFew attrs note slots row) = note
note_of (ToldPart attrs note slots row) = note

abbrev pub short_of : Held → ℕ
short_of held = note_of held / 256

abbrev pub set_note_of : Held → ℕ
set_note_of held = note_of held % 256

abbrev pub told_of : Held → Told
told_of Blank = AsPart
told_of (ToldWhole attrs note slots row) = AsWhole
told_of (ToldSet attrs note slots row) = IsSet
told_of (ToldFew attrs note slots row) = AsFew
told_of (ToldPart attrs note slots row) = AsPart

-- lanes, and the tests that they are of
abbrev pub few_with : Told → LaneAttrs → LaneSlots → Few
few_with told attrs slots = few_told told (attrs.first, slots.first) (attrs.second, slots.second) (attrs.third, slots.third)

abbrev pub few_in : Held → Few
few_in Blank = few_told AsPart (0, free) (0, free) (0, free)
few_in (ToldWhole attrs note slots row) = few_with AsWhole attrs slots
few_in (ToldSet attrs note slots row) = few_with IsSet attrs slots
few_in (ToldFew attrs note slots row) = few_with AsFew attrs slots
few_in (ToldPart attrs note slots row) = few_with AsPart attrs slots

-- what is told of a row is right: the tests are its glance, its condition has the form of one, and neither the set note nor the lanes
-- refuse an event of single values that satisfies it. Lanes that are sure let no other such event pass
pub record IsTold (row : Row) (told : Told) (set_note : ℕ) (few : Few) : Type 0 where
  pub tests : glance few.tests (extent_of told) ≡ glance_of row.conj
  pub form : IsConj row.conj
  pub set : LosesNone row.conj set_note few
  pub lanes : HoldLanes row.conj told few

-- a place tells these of its row, and its id
abbrev pub IsToldIn : Held → Type 0
IsToldIn held = IfSome (row_of held) (λ row. (short_of held ≡ short_id (id_of row)) × IsTold row (told_of held) (set_note_of held) (few_in held))
