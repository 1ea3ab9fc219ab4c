-- A follower, and what the bytes that it took make of it.
use Rattle.std.specs.Prelude.{◌≡◌, ℕ, ◌+◌, ◌<◌, List, [], length, take, Option, Some, None, Result, Ok, Err}
use Rattle.be_base.specs.declared.limits.TheConstants.{FEED_LINE_BYTES}
use Rattle.be_io.specs.Lines.{open_line}
use Rattle.be_model.specs.Schemas.{Attributes}
use Rattle.be_change.specs.History.{Entry}
use Rattle.be_follow.specs.declared.faults.FeedKind.{FeedKind}
use Rattle.be_follow.specs.declared.faults.FeedFault.{FeedFault}
use Rattle.be_follow.specs.declared.faults.FeedFault.TheVariants.{Bad, NoMemory}
use Rattle.be_follow.specs.Feeds.{Fed, none_fed, Means}

-- what a follower has, in a schema
pub record FollowerState : Type 0 where
  pub schema : Attributes
  pub fed : Fed
  -- what stands behind the last LF, up to one byte over the limit of a line
  pub rest : List ℕ

-- what was read of a feed, beside the list that came of it
pub record IntakeState : Type 0 where
  pub schema : Attributes
  pub lines : ℕ
  pub fault : Option FeedKind
  pub rest : List ℕ

abbrev pub fed_with : List Entry → IntakeState → Fed
fed_with h i = record { list = h; lines = i.lines; fault = i.fault }

abbrev pub with_list : List Entry → IntakeState → FollowerState
with_list h i = record { schema = i.schema; fed = fed_with h i; rest = i.rest }

abbrev pub new_intake : Attributes → IntakeState
new_intake s = record { schema = s; lines = 0; fault = None; rest = [] }

abbrev pub new_follower : Attributes → FollowerState
new_follower s = record { schema = s; fed = none_fed; rest = [] }

-- so many bytes of a line are kept
abbrev pub kept_bytes : ℕ
kept_bytes = FEED_LINE_BYTES + 1

-- a follower that took these bytes, from first to last
pub record Follows (bytes : List ℕ) (f : FollowerState) : Type 0 where
  pub means : Means f.schema bytes f.fed
  pub rest : f.fed.fault ≡ None → f.rest ≡ take kept_bytes (open_line bytes)

-- the bytes of a piece that were taken
abbrev pub taken_of : List ℕ → Result (Unit {0}) FeedFault → List ℕ
taken_of piece (Err (NoMemory taken)) = take taken piece
taken_of piece _ = piece

-- the answer names the first faulty line, or where memory was wanting
abbrev pub Tells : Fed → List ℕ → Result (Unit {0}) FeedFault → Type 0
Tells f piece (Ok _) = f.fault ≡ None
Tells f piece (Err (Bad line kind)) = (f.fault ≡ Some kind) × (line ≡ f.lines)
Tells f piece (Err (NoMemory taken)) = (f.fault ≡ None) × (taken < length piece)
