-- Where sessions stand, by a map.
use Rattle.std.specs.Prelude.{◌≡◌, ℕ, ◌+◌, false, List, length, Option, if◌then◌else◌}
use Rattle.std.specs.Option.{unwrap_or}
use Rattle.std.specs.Ordering.{nat_cmp}
use Rattle.std.specs.BTreeMap.{get}
use Rattle.be_base.specs.declared.limits.TheConstants.{COUNT_END}
use Rattle.be_change.specs.History.{Entry, session_of, serial_of, is_leave_of, entries_of, has_left, stand}
use Rattle.be_follow.specs.declared.stands.Stands.{Stands}

-- the number that was set last, or none
abbrev pub has_room : Stands → ℕ → Option ℕ
has_room s k = get nat_cmp s.numbers k

abbrev pub stand_in : Stands → ℕ → ℕ
stand_in s k = unwrap_or (has_room s k) 0

-- each number is where its session stands
abbrev pub AreStands : Stands → List Entry → Type 0
AreStands s h = (k : ℕ) → stand_in s k ≡ stand k h

-- where a session stands after a change of its own
abbrev pub stand_by : Entry → ℕ
stand_by e = if is_leave_of (session_of e) e then COUNT_END else serial_of e + 1

-- the session hasn't left, and this is its next serial
pub record IsNext (k : ℕ) (h : List Entry) (n : ℕ) : Type 0 where
  pub serial : n ≡ length (entries_of k h)
  pub present : has_left k h ≡ false
