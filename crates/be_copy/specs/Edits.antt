-- What an edit does to a list of changes beside an index, and what it is answered.
use Rattle.std.specs.Prelude.{◌≡◌, ◌≢◌, ◌↔◌, ◌==◌, ◌&&◌, Bool, true, false, List, [], ◌∷◌, ◌++◌, length, if◌then◌else◌}
use Rattle.std.specs.Arc.{arc_value}
use Rattle.be_model.specs.declared.paths.Step.{Step}
use Rattle.be_model.specs.declared.paths.StepDone.{StepDone}
use Rattle.be_model.specs.declared.paths.StepDone.TheVariants.{Done, NotHere, Skipped}
use Rattle.be_model.specs.Schemas.{Attributes}
use Rattle.be_model.specs.Lies.{row_lies}
use Rattle.be_change.specs.History.{Entry, subscribed, unsubscribed, left}
use Rattle.be_change.specs.Entries.{entry_of}
use Rattle.be_model.specs.Kinds.{is_merge}
use Rattle.be_copy.specs.declared.edits.Edit.{Edit}
use Rattle.be_copy.specs.declared.edits.Edit.TheVariants.{Change, Reshape}

-- a Sub's row lies in the schema, and its id is the place that it is to have
abbrev pub fits : Attributes → List Entry → Entry → Bool
fits s h (subscribed k n row) = (row.id.0 == length h) && row_lies s row
fits s h (unsubscribed k n name) = true
fits s h (left k n) = true

-- the edit is a change that is to be appended
abbrev pub is_taken : Attributes → List Entry → Edit → Bool
is_taken s h (Change c) = fits s h (entry_of (arc_value c))
is_taken s h (Reshape step) = false

-- the edit is a change that isn't to be appended
abbrev pub IsMisfit : Attributes → List Entry → Edit → Type 0
IsMisfit s h (Change c) = fits s h (entry_of (arc_value c)) ≡ false
IsMisfit s h (Reshape step) = ⊥

-- the list after an entry, which is appended where it fits
abbrev pub with_entry : Attributes → List Entry → Entry → List Entry
with_entry s h e = if fits s h e then h ++ e ∷ [] else h

-- the list after an edit
abbrev pub absorbed : Attributes → List Entry → Edit → List Entry
absorbed s h (Change c) = with_entry s h (entry_of (arc_value c))
absorbed s h (Reshape step) = h

-- what a step of the index answers
pub record IsStepped (can_step : Step → Bool) (IsMade : Step → Type 0) (IsUnchanged : Type 0) (step : Step) (done : StepDone) : Type 0 where
  pub here : (done ≡ NotHere) ↔ (can_step step ≡ false)
  pub made : done ≡ Done → IsMade step
  pub nothing : done ≡ NotHere → IsUnchanged
  pub merge : is_merge step ≡ true → done ≢ Skipped

-- what an edit is answered: a change by whether it fits, unless it is refused, and a step as the index answers it
abbrev pub AnswersEdit : Attributes → List Entry → (Step → Bool) → (Step → Type 0) → Type 0 → Edit → StepDone → Type 0
AnswersEdit s h can_step IsMade IsUnchanged (Change c) done = done ≡ (if fits s h (entry_of (arc_value c)) then Done else NotHere)
AnswersEdit s h can_step IsMade IsUnchanged (Reshape step) done = IsStepped can_step IsMade IsUnchanged step done
