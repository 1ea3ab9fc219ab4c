-- The core's memory as plain data.
use Rattle.std.specs.Prelude.{◌≡◌, ℕ}
use Rattle.be_base.specs.declared.names.Id.{Id}
use Rattle.be_base.specs.declared.names.SessionNo.{SessionNo}
use Rattle.be_model.specs.declared.changes.Row.{Row}
pub use Rattle.be_change.specs.Entries.{live_in}
use Rattle.be_change.specs.History.{Entry, subscribed, unsubscribed, left}
use Rattle.be_core.specs.declared.steps.Core.{Core}
use Rattle.be_core.specs.World.{State, state}

abbrev pub id_and_session : ℕ × Row → Id × SessionNo
id_and_session r = (record { 0 = r.0 }, r.1.session)

-- what the core's memory says
abbrev pub state_of : Core → State
state_of c = state c.log.list c.published c.seen.items

-- the change is a Sub of this row
abbrev pub IsSubOf : Row → Entry → Type 0
IsSubOf row (subscribed k n r) = r ≡ row
IsSubOf row (unsubscribed k n name) = ⊥
IsSubOf row (left k n) = ⊥
