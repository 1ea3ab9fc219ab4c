-- The desk as contracts see it.
use Rattle.std.specs.Prelude.{◌≡◌, ℕ, ◌+◌, ◌≤◌, ◌<◌, ◌⊎◌, List, [], length, Some, slice_get}
use Rattle.be_base.specs.Lists.{BeginsWith}
use Rattle.be_change.specs.History.{Entry, session_of}
use Rattle.be_model.specs.declared.paths.Step.{Step}
use Rattle.be_published.specs.States.{GlassState, new_glass}

pub record DeskState : Type 0 where
  -- what readers may see
  pub published : List Entry
  -- that, and the change that is held
  pub list : List Entry
  -- the steps by which the published copy was reshaped, and these with the pending ones
  pub reshaped : List Step
  pub steps : List Step
  -- what the reader that plans knows and counted
  pub glass : GlassState
  -- what changes and tends earned since the last look for a step
  pub patience : ℕ

-- the list begins with this opening, and each entry behind it is of a session
pub record IsOpened (opening list : List Entry) : Type 0 where
  pub begins : BeginsWith list opening
  pub behind : (place : ℕ) (e : Entry) → length opening ≤ place → slice_get list place ≡ Some e → 0 < session_of e

-- at most the last change is held
pub record IsHeld (published list : List Entry) : Type 0 where
  pub begins : BeginsWith list published
  pub one : length list ≤ length published + 1

-- a change is held
abbrev pub HasHeld : DeskState → Type 0
HasHeld d = length d.published < length d.list

-- a change is held, or a step is pending
abbrev pub HasPending : DeskState → Type 0
HasPending d = HasHeld d ⊎ (length d.reshaped < length d.steps)

-- a desk whose list is this one, all of it published
abbrev pub new_desk : List Entry → DeskState
new_desk list = record { published = list; list = list; reshaped = []; steps = []; glass = new_glass list; patience = 0 }

-- the desk with all that was pending published
abbrev pub freed : DeskState → DeskState
freed d = record d { published = d.list; reshaped = d.steps }

-- the desk is as before, but that what was pending may be published
abbrev pub MayBeFreed : DeskState → DeskState → Type 0
MayBeFreed d d' = (d' ≡ d) ⊎ (d' ≡ freed d)
