-- What is made of a door whose workers are done.
use Rattle.std.specs.Prelude.{◌≡◌, ◌+◌, ◌<◌, ◌⊎◌, true, List}
use Rattle.std.specs.List.{list_any}
use Rattle.be_desk.specs.Seats.{SeatState}
use Rattle.be_door.specs.Counts.{CountState, with_counts}
use Rattle.be_door.specs.Door.{DoorState, after_settle}
use Rattle.be_door.specs.Sums.{no_sums}
use Rattle.be_hub.specs.Files.{is_split_end}
use Rattle.be_hub.specs.declared.close.CloseFault.{CloseFault}
use Rattle.be_hub.specs.declared.close.CloseFault.TheVariants.{NoMemory}
use Rattle.be_protocol.specs.declared.ends.SessionEnd.{SessionEnd}
use Rattle.be_protocol.specs.declared.ends.SessionEnd.TheVariants as ends

-- the session ended otherwise than for want of memory or by two numbers that differ
abbrev pub IsUnbroken : SessionEnd → Type 0
IsUnbroken (ends.Split seen written) = ⊥
IsUnbroken ends.NoMemory = ⊥
IsUnbroken end = Unit {0}

-- a session ended by a SPLIT only where the seat counted one
abbrev pub CountsSplits : SeatState → List SessionEnd → Type 0
CountsSplits seat sessions = list_any is_split_end sessions ≡ true → 0 < seat.splits

-- the door is settled. Each of its links was given out, or an accept of it failed, and none was refused
pub record IsSettled {L : Type 0} (before after : DoorState L) (counts : List (CountState L)) : Type 0 where
  pub settled : after ≡ after_settle before counts
  pub none_refused : (with_counts no_sums counts).refused ≡ 0
  pub links : after.given + after.failed + after.refused ≡ after.links

-- so it is where the sessions' words differ. For want of memory perhaps it isn't even settled
abbrev pub MaySettle : {L : Type 0} → DoorState L → DoorState L → List (CountState L) → CloseFault → Type 0
MaySettle before after counts NoMemory = (after ≡ before) ⊎ (after ≡ after_settle before counts)
MaySettle before after counts fault = IsSettled before after counts
