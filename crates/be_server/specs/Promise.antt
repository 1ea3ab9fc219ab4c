-- The promise of the program, and of each of its commands.
use Rattle.std.specs.Prelude.{◌≡◌, ◌⊎◌, Option, Some, None}
use Rattle.be_io.specs.Counts.{HasRisen}
use Rattle.be_protocol.specs.Conversation.{TakesWithin}
use Rattle.be_command_line.specs.Words.{ProgramRequest, mirror}
use Rattle.be_server.specs.declared.status.Status.{Status}
use Rattle.be_server.specs.declared.status.Status.TheVariants.{Words, NoMemory}
use Rattle.be_server.specs.Asked.{AsksFor}
use Rattle.be_server.specs.Commands.{Ends, LeavesDoorAlone}
use Rattle.be_server.specs.Exact.{EndsExactly}
use Rattle.be_server.specs.Outside.{Passage}

-- the words are refused exactly where they have no reading, want of memory aside
abbrev pub RefusesWords : Option ProgramRequest → Status → Type 0
RefusesWords request status = (status ≡ Words → request ≡ None) × (request ≡ None → (status ≡ Words) ⊎ (status ≡ NoMemory))

-- the input is as it was, but in `mirror`
abbrev pub LeavesInput : {L : Type 0} → Passage L → Option ProgramRequest → Type 0
LeavesInput p (Some (mirror schema port seats links)) = Unit {0}
LeavesInput p request = p.InputKept

-- where memory was wanting, the input and the output are as they were, or the output refused a write or a flush for want of it. Of
-- `mirror` this is said of the output alone
abbrev pub WantsMemory : {L : Type 0} → Passage L → Option ProgramRequest → Status → Type 0
WantsMemory p request status =
    status ≡ NoMemory → (HasRisen p.before.link.sink.refusals p.after.link.sink.refusals → ⊥) → LeavesInput p request × p.OutKept

-- p is what the outside went through, the words ask for this, or for nothing, and it ended so
pub record Promise {L : Type 0} (p : Passage L) (request : Option ProgramRequest) (status : Status) : Type 0 where
  -- each status has its cause, and says what was read and what was written
  pub ends : Ends p request status
  -- which status is due, over a shelf that tells its files: the first faulty file, or a file over the limit, is named, unless reading
  -- a file failed or memory was wanting. Where nothing is wrong, all is done, or memory was wanting; of `drill`, `heat` and `serve` also
  -- Split, Stray or Shut, and of `mirror` FeedBad, Ahead or Shut
  pub exact : EndsExactly p request status
  pub words : RefusesWords request status
  pub memory : WantsMemory p request status
  -- the input gives 2^40 bytes at most
  pub within : TakesWithin p.before.link.source.taken p.after.link.source.taken
  -- the shelf is asked for the files that the words name, one after another, each only where those before it are good
  pub asked : AsksFor p request
  -- only `serve` and `mirror` touch the door
  pub door : LeavesDoorAlone p request
