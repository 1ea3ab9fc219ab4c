-- What a call of the maintainer makes of the desk, for each answer.
use Rattle.std.specs.Prelude.{◌≡◌, ℕ, ◌<◌, ◌≤◌, ◌⊎◌, Bool, List, [], ◌∷◌, ◌++◌, length, Option, Some, None}
use Rattle.be_base.specs.Counts.{raised}
use Rattle.be_change.specs.History.{Entry, live}
use Rattle.be_model.specs.declared.paths.Step.{Step}
use Rattle.be_published.specs.Copies.{Plans, Looks}
use Rattle.be_published.specs.States.{one_shut, one_none, one_plan}
use Rattle.be_desk.specs.Desks.{DeskState, freed, HasHeld, HasPending}
use Rattle.be_desk.specs.declared.patience.TheConstants.{LOOK_ROWS, ROWS_RESHAPED, WORK_A_TEND}
use Rattle.be_desk.specs.declared.maintained.Maintained.{Maintained}
use Rattle.be_desk.specs.declared.maintained.Maintained.TheVariants.{Freed, Stepped, Idle, Shut, NoMemory}

-- this step was put last among those that are pending
abbrev pub with_step : Step → DeskState → DeskState
with_step step d = record d { steps = d.steps ++ step ∷ [] }

-- what was pending was published, and then this step was found by a plan or a look
abbrev pub planned : Step → DeskState → DeskState
planned step d = record (freed d) { glass = one_plan step d.glass }

-- what was pending was published, and then memory was wanting to the plan or look, or to the step that it found: that isn't put,
-- or is pending
abbrev pub IsCutShort : DeskState → DeskState → Type 0
IsCutShort d d' = (d' ≡ freed d) ⊎ ((step : Step) × ((d' ≡ planned step d) ⊎ (d' ≡ with_step step (planned step d))))

-- what is pending is published first, be it a change or steps that couldn't be published before
abbrev pub IsMaintained : DeskState → DeskState → Maintained → Type 0
-- a change was held, and was published
IsMaintained d d' (Freed n) = HasHeld d × (d' ≡ freed d) × (n ≡ length d.list)
-- none was held, and this step was planned, put and published
IsMaintained d d' (Stepped step) = (d.published ≡ d.list) × (d' ≡ freed (with_step step (planned step d)))
-- none was held, and no step was found
IsMaintained d d' Idle = (d.published ≡ d.list) × (mark : ℕ) × (d' ≡ record (freed d) { glass = one_none mark d.glass })
-- none was held, and the reader was refused an entry
IsMaintained d d' Shut = (d.published ≡ d.list) × (d' ≡ record (freed d) { glass = one_shut d.glass })
-- memory was wanting to the publishing of what was pending, to the plan, or to the step that it found
IsMaintained d d' NoMemory = (d' ≡ d) ⊎ ((d.published ≡ d.list) × IsCutShort d d')

-- the step that was made, or that there is none, came of a plan of some copy whose list goes on from what the desk's reader knew
abbrev pub IsByPlan : {X : Type 0} → (X → List Entry) → (X → Option Step) → (X → ℕ) → DeskState → DeskState → Maintained → Type 0
IsByPlan list planned mark d d' (Stepped step) = Plans list planned mark d.glass d'.glass (Some step)
IsByPlan list planned mark d d' Idle = Plans list planned mark d.glass d'.glass None
IsByPlan list planned mark d d' answer = Unit {0}

-- steps that are pending are published first; no change is held
abbrev pub IsLookedOn : DeskState → DeskState → Maintained → Type 0
IsLookedOn d d' (Freed n) = ⊥
-- this step was found, put and published
IsLookedOn d d' (Stepped step) = d' ≡ freed (with_step step (planned step d))
-- no step was found
IsLookedOn d d' Idle = d' ≡ freed d
-- the reader was refused an entry
IsLookedOn d d' Shut = d' ≡ record (freed d) { glass = one_shut d.glass }
-- memory was wanting to the publishing of what was pending, to the look, or to the step that it found
IsLookedOn d d' NoMemory = (d' ≡ d) ⊎ IsCutShort d d'

-- the step that was made stood in some copy whose list goes on from what the desk's reader knew
abbrev pub IsByLook : {X : Type 0} → (X → List Entry) → (X → Step → Bool) → DeskState → DeskState → Maintained → Type 0
IsByLook list can d d' (Stepped step) = Looks list can d.glass d'.glass (Some step)
IsByLook list can d d' answer = Unit {0}

-- this step is put and published, or not for want of memory: then it isn't put, or is pending
abbrev pub OnStep : DeskState → DeskState → Step → Maintained → Type 0
OnStep d d' step (Stepped made) = (made ≡ step) × (d' ≡ freed (with_step step d))
OnStep d d' step NoMemory = (d' ≡ d) ⊎ (d' ≡ with_step step d)
OnStep d d' step answer = ⊥

-- a tend has earned its part of a look
abbrev pub having_tended : DeskState → DeskState
having_tended d = record d { patience = raised WORK_A_TEND d.patience }

-- what was earned is spent, as a look is due
abbrev pub looking : DeskState → DeskState
looking d = record d { patience = 0 }

-- something is pending, or enough rows are live for a look, and one was earned
abbrev pub IsDue : DeskState → Type 0
IsDue d = HasPending d ⊎ ((ROWS_RESHAPED ≤ length (live d.list)) × (LOOK_ROWS ≤ d.patience))

-- too few rows are live for a look, or none was earned
abbrev pub IsPutOff : DeskState → Type 0
IsPutOff d = (length (live d.list) < ROWS_RESHAPED) ⊎ (d.patience < LOOK_ROWS)

-- what a tend makes of the desk
abbrev pub IsTended : DeskState → DeskState → Option Maintained → Type 0
-- nothing is pending, and nothing was done. It earned, and a look is still put off
IsTended d d' None = (d ≡ freed d) × (d' ≡ having_tended d) × IsPutOff d'
-- it was due: a change that was held was published, or what was earned was spent, and what is pending published before a look
IsTended d d' (Some done) =
    IsDue (having_tended d) × ((HasHeld d × IsMaintained (having_tended d) d' done) ⊎ ((d.published ≡ d.list) × IsLookedOn (looking d) d' done))
