-- What the writer hands to both copies.
use Rattle.std.specs.Prelude.{◌≡◌, ◌+◌, ◌==◌, ◌<◌, Bool, true, false, List, [], ◌∷◌, ◌++◌, length, fold, if◌then◌else◌}
use Rattle.std.specs.Arc.{arc_value}
use Rattle.be_model.specs.Schemas.{Attributes}
use Rattle.be_model.specs.declared.paths.Step.{Step}
use Rattle.be_base.specs.Lists.{BeginsWith}
use Rattle.be_change.specs.History.{Entry}
use Rattle.be_change.specs.Entries.{entry_of}
use Rattle.be_change.specs.Sound.{MayAppend}
use Rattle.be_copy.specs.declared.edits.Edit.{Edit}
use Rattle.be_copy.specs.declared.edits.Edit.TheVariants.{Change, Reshape}

-- a change may come next in the list; a step may be tried at any time
abbrev pub MayEdit : Attributes → List Entry → Edit → Type 0
MayEdit s h (Change c) = MayAppend s h (entry_of (arc_value c))
MayEdit s h (Reshape step) = Unit {0}

-- the list after an edit that may come
abbrev pub edited : List Entry → Edit → List Entry
edited h (Change c) = h ++ entry_of (arc_value c) ∷ []
edited h (Reshape step) = h

-- the steps after an edit
abbrev pub stepped : List Step → Edit → List Step
stepped steps (Change c) = steps
stepped steps (Reshape step) = steps ++ step ∷ []

-- what an edit does to both copies: it leads to this list, or reshapes them by this step
pub data Noted : Type 0 where
  Leads : (to : List Entry) → Noted
  Reshapes : (step : Step) → Noted

-- what an edit does, where its change led to this list
abbrev pub leads_to : Edit → List Entry → Noted
leads_to (Change c) h = Leads h
leads_to (Reshape step) h = Reshapes step

-- the list ends with the edit's change
abbrev pub EndsWith : Edit → List Entry → Type 0
EndsWith (Change c) h = (before : List Entry) × (h ≡ before ++ entry_of (arc_value c) ∷ [])
EndsWith (Reshape step) h = Unit {0}

-- a copy's list after a note, which names the list that it leads to: that one, where it is the next
abbrev pub noted : List Entry → Noted → List Entry
noted h (Leads next) = if length next == length h + 1 then next else h
noted h (Reshapes step) = h

-- the steps among notes, in order
abbrev pub steps_in : List Noted → List Step
steps_in [] = []
steps_in (Leads next ∷ notes) = steps_in notes
steps_in (Reshapes step ∷ notes) = step ∷ steps_in notes

-- the pending notes lead from what is published to the whole, which goes on where what is published ends, and their steps
-- stand behind those that were published
abbrev pub ArePending : List Entry → List Step → List Noted → List Entry → List Step → Type 0
ArePending here made notes front steps = (fold noted here notes ≡ front) × BeginsWith front here × (steps ≡ made ++ steps_in notes)

-- whether some of the steps aren't among those that were made
abbrev pub IsLoose : Bool → List Step → List Step → Type 0
IsLoose loose made steps = (loose ≡ false → made ≡ steps) × (loose ≡ true → length made < length steps)
