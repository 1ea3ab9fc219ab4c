-- What a session's replies owe the counts of its board.
use Rattle.std.specs.Prelude.{ℕ, ◌+◌, ◌-◌, ◌*◌, ◌/◌, ◌⊎◌, Bool, true, false, List, length, filter, take, nat_lt}
use Rattle.std.specs.List.{sum_by}
use Rattle.be_base.specs.Counts.{HasRisenBy, RisesBy}
use Rattle.be_change.specs.History.{Entry, is_of, hit_rows}
use Rattle.be_change.specs.Requests.{fetching, sending, hit, cost, listed, sent, notes, dumped, tailed, split, shut, Exchange}
use Rattle.be_protocol.specs.Ends.{goes_on}
use Rattle.be_protocol.specs.declared.conversing.TheConstants.{REPLIES_TENDED}
use Rattle.be_board.specs.State.{BoardCounts, BoardState, CountsPuts}

-- the reply tells what a read found
abbrev pub is_read : Exchange → Bool
is_read (r, hit n names) = true
is_read (r, cost n c) = true
is_read (r, listed n names) = true
is_read (r, sent n put dropped) = true
is_read (r, dumped n rows) = true
is_read (r, tailed n place entries) = true
is_read (r, _) = false

-- the reply says that a read was refused an entry
abbrev pub is_shut : Exchange → Bool
is_shut (r, shut) = true
is_shut (r, _) = false

-- the reply tells two numbers that differ
abbrev pub is_split : Exchange → Bool
is_split (r, split a b) = true
is_split (r, _) = false

-- FETCH was given fewer letters than it asked for
abbrev pub is_short : Exchange → Bool
is_short (fetching max, notes letters) = nat_lt (length letters) max
is_short (r, _) = false

-- how many letters of a SEND were dropped beside those for rows of session 0
abbrev pub full_letters : List Entry → Exchange → ℕ
full_letters h (sending e, sent n put dropped) = dropped - length (filter (is_of 0) (hit_rows (take n h) e))
full_letters h (r, _) = 0

-- how many letters a reply says were put
abbrev pub letters_put : Exchange → ℕ
letters_put (r, sent n put dropped) = put
letters_put (r, _) = 0

-- the board counted two numbers that differ as often as these replies tell them; or once more, where the session left without a
-- reply, and may have been refused by them
abbrev pub TiedSplits : (silent : Bool) → List Exchange → BoardCounts → BoardCounts → Type 0
TiedSplits false ps before after = RisesBy (length (filter is_split ps)) before.splits after.splits
TiedSplits true ps before after =
    RisesBy (length (filter is_split ps)) before.splits after.splits ⊎ RisesBy (length (filter is_split ps) + 1) before.splits after.splits

-- of these replies as many tell of an entry that was refused, and of two numbers that differ, as the board counted; and no more
-- tell of a read, or, of those that were written whole, of an empty mailbox. A read may be counted and not told where memory was
-- wanting then
pub record Tied (silent : Bool) (ps whole : List Exchange) (before after : BoardCounts) : Type 0 where
  pub reads : HasRisenBy (length (filter is_read ps)) before.reads after.reads
  pub shuts : RisesBy (length (filter is_shut ps)) before.shuts after.shuts
  pub splits : TiedSplits silent ps before after
  pub empties : HasRisenBy (length (filter is_short whole)) before.empties after.empties

-- over this list no more letters found their mailbox full than the board counted
abbrev pub TiedFull : List Entry → List Exchange → BoardCounts → BoardCounts → Type 0
TiedFull h ps before after = HasRisenBy (sum_by (full_letters h) ps) before.fulls after.fulls

-- the letters that these replies say were put are together those that the board counted in shared mailboxes, where it doesn't
-- tell its box
abbrev pub TiedPuts : List Exchange → BoardState → BoardState → Type 0
TiedPuts ps b b' = CountsPuts b.box (sum_by letters_put ps) b.counts b'.counts

-- how many tends are due behind these replies: one behind each sixteenth that didn't end the session
abbrev pub tends_behind : List Exchange → ℕ
tends_behind ps = length (filter goes_on ps) / REPLIES_TENDED

-- the board counted the tends that were due, as it counts one, and no others
abbrev pub TiedTends : List Exchange → BoardState → BoardState → Type 0
TiedTends ps b b' = RisesBy (tends_behind ps * b.per_tend) b.counts.tends b'.counts.tends
