-- What became of a mirror's feed, and what the links of a door gave and hold, over the list that the feed means.
use Rattle.std.specs.Prelude.{◌≡◌, ℕ, ◌<◌, ◌≤◌, ◌++◌, Bool, true, false, List, [], ◌∷◌, length, map, All, Some, None}
use Rattle.be_base.specs.Counts.{HasRisen, HasRisenBy, RisesBy}
use Rattle.be_base.specs.declared.limits.TheConstants.{READ_BYTES, SOURCE_BYTES}
use Rattle.be_base.specs.declared.names.SessionNo.{SessionNo}
use Rattle.be_io.specs.Outside.{LinkState}
use Rattle.be_io.specs.Source.{SourceState}
use Rattle.be_io.specs.Told.{WhereTold}
use Rattle.be_model.specs.Schemas.{Attributes}
use Rattle.be_change.specs.History.{Entry}
use Rattle.be_door.specs.Door.{DoorState, after_try}
use Rattle.be_door.specs.declared.sums.Sums.{Sums}
use Rattle.be_follow.specs.Feeds.{Fed, Means}
use Rattle.be_protocol.specs.Conversation.{Terms}
use Rattle.be_protocol.specs.declared.ends.SessionEnd.{SessionEnd}
use Rattle.be_hub.specs.Serving.{AllCameBack, IsServedUnder, IsTried, served_door, told_of}
use Rattle.be_hub.specs.Transcripts.{ShutsOnly}
use Rattle.be_published.specs.Reads.{IsBeyond}
use Rattle.be_published.specs.declared.beyond.Beyond.{Beyond}
use Rattle.be_mirror.specs.Asked.{mirror_reading}
use Rattle.be_mirror.specs.Reading.{AreReads}
use Rattle.be_mirror.specs.declared.feeding.FeedEnd.{FeedEnd}
use Rattle.be_mirror.specs.declared.feeding.FeedEnd.TheVariants as feed
use Rattle.be_mirror.specs.declared.serving.MirrorFault.{MirrorFault}
use Rattle.be_mirror.specs.declared.serving.MirrorFault.TheVariants as fault
use Rattle.be_io.specs.declared.faults.ListenFault.{ListenFault}
use Rattle.be_io.specs.declared.faults.ListenFault.TheVariants as listen

-- no read of the input failed
abbrev pub NoFeedReadFailed : SourceState → SourceState → Type 0
NoFeedReadFailed before after = after.faults ≡ before.faults

-- why the feed was taken no further, over what has come of it
abbrev pub FeedEnds : SourceState → SourceState → FeedEnd → Fed → Type 0
-- the input came to its end
FeedEnds before after feed.Ended f = (f.fault ≡ None) × NoFeedReadFailed before after × WhereTold before.left after.left (λ b a. a ≡ [])
-- it was left, as the code does once all links were served
FeedEnds before after feed.Left f = (f.fault ≡ None) × NoFeedReadFailed before after
-- the first faulty line
FeedEnds before after (feed.Bad line kind) f = (f.fault ≡ Some kind) × (line ≡ f.lines) × NoFeedReadFailed before after
FeedEnds before after feed.ReadFault f = (f.fault ≡ None) × HasRisen before.faults after.faults
FeedEnds before after feed.Spent f = (f.fault ≡ None) × HasRisenBy SOURCE_BYTES before.taken after.taken × NoFeedReadFailed before after
-- memory was wanting to it
FeedEnds before after feed.NoMemory f = ⊥

-- the input gave less than 2^40 bytes meanwhile
abbrev pub IsFew : SourceState → SourceState → Type 0
IsFew before after = (taken : ℕ) × (taken < SOURCE_BYTES) × RisesBy taken before.taken after.taken

-- a feed that came to its end, or was left, has less than 2^40 bytes
abbrev pub IsShort : SourceState → SourceState → FeedEnd → Type 0
IsShort before after feed.Ended = IsFew before after
IsShort before after feed.Left = IsFew before after
IsShort before after end = Unit {0}

-- of a feed with a faulty line nothing was read beyond one read's length behind a beginning that has no fault
abbrev pub StopsAtFault : Attributes → List ℕ → FeedEnd → Type 0
StopsAtFault s bytes (feed.Bad line kind) =
    (front last : List ℕ) × (bytes ≡ front ++ last) × (length last ≤ READ_BYTES) × (f : Fed) × Means s front f × (f.fault ≡ None)
StopsAtFault s bytes end = Unit {0}

-- these bytes were taken from the input, this is what they mean, and so it ended
pub record Feeds (s : Attributes) (before after : SourceState) (end : FeedEnd) (f : Fed) : Type 0 where
  pub bytes : List ℕ
  -- all that it gave meanwhile, where it tells so
  pub given : WhereTold before.left after.left (λ b a. b ≡ bytes ++ a)
  pub means : Means s bytes f
  pub ends : FeedEnds before after end f
  pub short : IsShort before after end
  pub stops : StopsAtFault s bytes end

-- a conversation of reads over the list. Where no reader was refused an entry no reply says so
abbrev pub list_terms : Attributes → List Entry → (shuts : Bool) → Terms
list_terms s h shuts = record {
  schema = s;
  asks = mirror_reading s;
  Whole = λ end lines ps. AreReads s 0 h lines ps × ShutsOnly shuts ps;
  InPart = λ lines ps p out. AreReads s 0 h lines (ps ++ p ∷ []) × ShutsOnly shuts (ps ++ p ∷ []);
}

-- a link that was given out and served: its number, the link as it stood when it came back, and how its session ended
pub record ReadLink : Type 0 where
  pub number : ℕ
  pub link : LinkState
  pub end : SessionEnd

-- the link was served over the list
abbrev pub IsReadLink : Attributes → List Entry → (shuts : Bool) → Sums → ReadLink → Type 0
IsReadLink s h shuts sums l = IsServedUnder (list_terms s h shuts) sums l.link l.end

abbrev pub number_and_link : ReadLink → ℕ × LinkState
number_and_link l = (l.number, l.link)

module _ {L : Type 0} (told : L → LinkState) where
  -- a door that keeps its links has these, in this order, and one that doesn't keep them has none
  abbrev pub ReadLinksAreKept : Bool → List (SessionNo × L) → List ReadLink → Type 0
  ReadLinksAreKept true kept ls = map (told_of told) kept ≡ map number_and_link ls
  ReadLinksAreKept false kept ls = kept ≡ []

  -- so many links were to be given out, and what came of them has these numbers. Each that was given out was served over the list
  pub record LinksAreRead (s : Attributes) (h : List Entry) (shuts : Bool) (links : ℕ) (sums : Sums) (keeps : Bool) (kept : List (SessionNo × L)) : Type 0 where
    pub came_back : AllCameBack links sums
    pub none_refused : sums.refused ≡ 0
    -- an accept failed only where the count of faults says it
    pub failed : 0 < sums.failed → 0 < sums.read_faults
    pub served : List ReadLink
    pub count : length served ≡ sums.given
    pub each : All (IsReadLink s h shuts sums) served
    pub kept_are : ReadLinksAreKept keeps kept served

  -- the feed was taken from the input beside the links, which were served over the list that it means, of n changes
  pub record Mirrors (s : Attributes) (before after : SourceState) (end : FeedEnd) (n links : ℕ) (shuts : Bool) (sums : Sums) (keeps : Bool) (kept : List (SessionNo × L)) : Type 0 where
    pub fed : Fed
    pub feeds : Feeds s before after end fed
    pub len : n ≡ length fed.list
    pub served : LinksAreRead s fed.list shuts links sums keeps kept

-- some reader knows more than what is published
abbrev pub IsSomeBeyond : List Entry → Beyond → Type 0
IsSomeBeyond published beyond = (known : List Entry) × IsBeyond known published beyond

-- the feed was taken from the input, all of the list that it means is published, and some reader knows more than that
pub record IsAhead (s : Attributes) (before after : SourceState) (beyond : Beyond) : Type 0 where
  pub end : FeedEnd
  pub fed : Fed
  pub feeds : Feeds s before after end fed
  pub knows : IsSomeBeyond fed.list beyond

module _ {L : Type 0} where
  -- what is known of the door where nothing is given
  abbrev pub DoorAfterMirrorFault : DoorState L → DoorState L → (port links workers : ℕ) → MirrorFault → Type 0
  -- it can't listen, and no more has changed
  DoorAfterMirrorFault before after port links workers fault.Failed =
      HasRisen before.read_faults after.read_faults × (after ≡ record (after_try before port) { read_faults = after.read_faults })
  DoorAfterMirrorFault before after port links workers fault.NoMemory = IsTried before after port
  -- all links came back
  DoorAfterMirrorFault before after port links workers (fault.Ahead beyond) =
      (sums : Sums) × AllCameBack links sums × (after ≡ served_door before port links workers sums after.kept)

-- the fault where the door didn't listen
abbrev pub mirror_fault_of_listen : ListenFault → MirrorFault
mirror_fault_of_listen listen.Failed = fault.Failed
mirror_fault_of_listen listen.NoMemory = fault.NoMemory
