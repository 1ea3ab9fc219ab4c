-- Where sessions stand, in a table.
use Rattle.std.specs.Prelude.{◌≡◌, ℕ, ◌+◌, List}
use Rattle.std.specs.Map.{count_at}
use Rattle.std.specs.Ordering.{nat_cmp}
use Rattle.std.specs.BTreeMap.{get}
use Rattle.be_base.specs.declared.limits.TheConstants.{COUNT_END}
use Rattle.be_change.specs.History.{Entry, subscribed, unsubscribed, left, stand}
use Rattle.be_desk.specs.declared.stands.Stands.{Stands}

-- the table has each session's stand in the list; a session that isn't in the table has the stand 0
abbrev pub AreStands : Stands → List Entry → Type 0
AreStands t h = (k : ℕ) → count_at (get nat_cmp t.by_session) k ≡ stand k h

-- where the entry's session stands once the entry is in the list
abbrev pub stand_after : Entry → ℕ
stand_after (subscribed k n row) = n + 1
stand_after (unsubscribed k n name) = n + 1
stand_after (left k n) = COUNT_END
