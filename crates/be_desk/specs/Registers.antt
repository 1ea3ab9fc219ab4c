-- The register: the ids of live rows, by name and by session, and how many there are.
use Rattle.std.specs.Prelude.{◌≡◌, ◌++◌, List, [], ◌∷◌, length}
use Rattle.be_model.specs.declared.changes.Row.{Row}
use Rattle.be_model.specs.ByIds.{ByIds}
use Rattle.be_change.specs.History.{Entry, subscribed, unsubscribed, left, live}
use Rattle.be_copy.specs.Registers.{IsRegister as AreFiled}
use Rattle.be_desk.specs.declared.register.Register.{Register}

-- the register agrees with these rows
pub record IsRegister (r : Register) (m : ByIds) : Type 0 where
  pub filed : AreFiled r.filed m
  pub count : r.count ≡ length m

-- the live rows, and behind them a row that is subscribed next
abbrev pub with_row : List Entry → Row → ByIds
with_row h row = live h ++ (length h, row) ∷ []

-- the rows that are filed before the register is told of the entry: that of a Sub is put already
abbrev pub with_put : List Entry → Entry → ByIds
with_put h (subscribed k n row) = with_row h row
with_put h (unsubscribed k n name) = live h
with_put h (left k n) = live h
