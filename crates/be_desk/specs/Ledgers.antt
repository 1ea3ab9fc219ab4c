-- The list of changes with what is kept beside it.
use Rattle.std.specs.Prelude.{◌≡◌, ℕ, List, Some}
use Rattle.be_model.specs.ByIds.{ByIds}
use Rattle.be_model.specs.declared.changes.Row.{Row}
use Rattle.be_change.specs.History.{Text, Entry, live}
use Rattle.be_core.specs.World.{named}
use Rattle.be_desk.specs.declared.register.Register.{Register}
use Rattle.be_desk.specs.declared.stands.Stands.{Stands}
use Rattle.be_desk.specs.Registers.{IsRegister}
use Rattle.be_desk.specs.Stands.{AreStands}

-- the register and the table agree with the list
pub record IsLedger (h : List Entry) (register : Register) (stands : Stands) : Type 0 where
  pub names : IsRegister register (live h)
  pub sessions : AreStands stands h

-- the first row of this name stands at this id, and is the session's
abbrev pub IsNamed : Text → ByIds → ℕ → ℕ → Type 0
IsNamed name m id k = (r : ℕ × Row) × (named name m ≡ Some r) × (r.0 ≡ id) × (r.1.session.0 ≡ k)
