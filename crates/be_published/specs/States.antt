-- What contracts see of the writer and of a reader.
use Rattle.std.specs.Prelude.{ℕ, ◌<◌, ◌⊎◌, List, [], ◌∷◌, ◌++◌, length, Option, Some, None}
use Rattle.be_base.specs.Counts.{raised}
use Rattle.be_change.specs.History.{Entry}
use Rattle.be_model.specs.declared.paths.Step.{Step}

pub record PressState : Type 0 where
  -- the changes that are published, and these with the pending ones
  pub published : List Entry
  pub list : List Entry
  -- the steps that were published, and these with the pending ones
  pub reshaped : List Step
  pub steps : List Step

-- a press with nothing pending
abbrev pub settled : List Entry → List Step → PressState
settled h steps = record { published = h; list = h; reshaped = steps; steps = steps }

-- a change or a step is pending
abbrev pub HasPending : PressState → Type 0
HasPending p = (length p.published < length p.list) ⊎ (length p.reshaped < length p.steps)

pub record GlassState : Type 0 where
  -- the longest of the lists that were seen and learnt
  pub known : List Entry
  -- entries that were refused
  pub shuts : ℕ
  -- reads that were answered
  pub reads : ℕ
  -- plans that found no step
  pub nones : ℕ
  -- the steps that plans and looks found, in order
  pub plans : List Step
  -- the mark of the copy in which a plan last found none
  pub bare : Option ℕ

-- a reader that knows the list, and counted nothing
abbrev pub new_glass : List Entry → GlassState
new_glass known = record { known = known; shuts = 0; reads = 0; nones = 0; plans = []; bare = None }

abbrev pub knowing : List Entry → GlassState → GlassState
knowing known g = record g { known = known }

abbrev pub one_shut : GlassState → GlassState
one_shut g = record g { shuts = raised 1 g.shuts }

abbrev pub one_read : List Entry → GlassState → GlassState
one_read known g = record g { known = known; reads = raised 1 g.reads }

abbrev pub one_none : ℕ → GlassState → GlassState
one_none mark g = record g { nones = raised 1 g.nones; bare = Some mark }

abbrev pub one_plan : Step → GlassState → GlassState
one_plan step g = record g { plans = g.plans ++ step ∷ [] }
