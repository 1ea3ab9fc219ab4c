-- Copies, as contracts see them.
use Rattle.std.specs.Prelude.{◌≡◌, ℕ, ◌⊎◌, Bool, true, List, Option, Some, None, IfSome}
use Rattle.be_base.specs.Lists.{BeginsWith}
use Rattle.be_change.specs.History.{Entry}
use Rattle.be_model.specs.declared.paths.Step.{Step}
use Rattle.be_published.specs.States.{GlassState}
use Rattle.be_published.specs.Reads.{after_plan, after_look}

-- the list, the index that holds what is live in it, and the mark
pub record Paged (X : Type 0) : Type 0 where
  pub list : List Entry
  pub index : X
  pub mark : ℕ

-- it holds of a copy that has this list
abbrev pub OfCopy : {X : Type 0} → (X → List Entry) → List Entry → (X → Type 0) → Type 0
OfCopy {X} list h P = (copy : X) × (list copy ≡ h) × P copy

-- the plan of a copy is this step, or none; or it is none, and the copy has the mark of one in which a plan found none
abbrev pub IsPlanIn : {X : Type 0} → (X → Option Step) → (X → ℕ) → Option ℕ → X → Option Step → Type 0
IsPlanIn planned mark bare copy found = (found ≡ planned copy) ⊎ ((found ≡ None) × (bare ≡ Some (mark copy)))

-- there is a copy whose list goes on where all known ends. A plan found this of it (`IsPlanIn`), which was counted
pub record Plans {X : Type 0} (list : X → List Entry) (planned : X → Option Step) (mark : X → ℕ) (g g' : GlassState) (found : Option Step) : Type 0 where
  pub copy : X
  pub known : BeginsWith (list copy) g.known
  pub found_is : IsPlanIn planned mark g.bare copy found
  pub counts : g' ≡ after_plan (mark copy) g found

-- there is a copy whose list goes on where all known ends. The step that a look found stands in it, and was counted
pub record Looks {X : Type 0} (list : X → List Entry) (can : X → Step → Bool) (g g' : GlassState) (found : Option Step) : Type 0 where
  pub copy : X
  pub known : BeginsWith (list copy) g.known
  pub stands : IfSome found (λ step. can copy step ≡ true)
  pub counts : g' ≡ after_look g found
