-- Changes as plain data.
use Rattle.std.specs.Prelude.{ℕ}
use Rattle.std.specs.Arc.{arc_value}
use Rattle.be_base.specs.Text.{Text}
use Rattle.be_model.specs.declared.changes.Row.{Row}
use Rattle.be_model.specs.declared.changes.Change.{Change}
use Rattle.be_model.specs.declared.changes.Change.TheVariants.{Sub, Unsub, Bye}

-- a change: who made it, as which of its own from 0, and what it is
pub data Entry : Type 0 where
  subscribed : (session serial : ℕ) → Row → Entry
  unsubscribed : (session serial : ℕ) → Text → Entry
  -- the session's Bye
  left : (session serial : ℕ) → Entry

abbrev pub entry_of : Change → Entry
entry_of (Sub k n row) = subscribed k.0 n (arc_value row)
entry_of (Unsub k n name) = unsubscribed k.0 n name.value
entry_of (Bye k n) = left k.0 n
