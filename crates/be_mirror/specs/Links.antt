-- What a worker leaves of the links of a door that it served by reads, one after another.
use Rattle.std.specs.Prelude.{◌≡◌, ℕ, ◌<◌, Bool, true, false, List, length, map, All}
use Rattle.be_base.specs.Lists.{BeginsWith}
use Rattle.be_io.specs.Outside.{LinkState}
use Rattle.be_model.specs.Schemas.{Attributes}
use Rattle.be_change.specs.History.{Entry}
use Rattle.be_door.specs.Counts.{CountState, IsSound, sums_of}
use Rattle.be_door.specs.Door.{DoorState, IsOf, after_listen}
use Rattle.be_door.specs.Links.{IsUnused}
use Rattle.be_hub.specs.Files.{is_split_end}
use Rattle.be_hub.specs.Links.{IsCounted}
use Rattle.be_protocol.specs.Conversation.{ConversationEnds}
use Rattle.be_protocol.specs.declared.ends.SessionEnd.{SessionEnd}
use Rattle.be_published.specs.States.{GlassState}
use Rattle.be_mirror.specs.Serving.{ReadLink, list_terms, ReadLinksAreKept}

-- readers may have been refused an entry, or this one wasn't
abbrev pub IsQuiet : Bool → GlassState → Type 0
IsQuiet shuts g = shuts ≡ false → g.shuts ≡ 0

-- a link that nobody had used was served by reads. Each list that goes on from what the glass knows bears them out. An end for want of
-- memory may say no more than that
pub record WasRead (s : Attributes) (g : GlassState) (l : ReadLink) : Type 0 where
  pub unused : LinkState
  pub is_unused : IsUnused unused
  pub whole : l.link.source.whole ≡ unused.source.whole
  pub never_split : is_split_end l.end ≡ false
  pub ends : (h : List Entry) (shuts : Bool) → BeginsWith h g.known → IsQuiet shuts g → ConversationEnds (Unit {0}) (list_terms s h shuts) unused l.link l.end

-- the door listens, and no link was drawn
abbrev pub Listened : {L : Type 0} → DoorState L → DoorState L → (port links workers : ℕ) → Type 0
Listened before door port links workers = door ≡ after_listen before door.«open» port links workers

module _ {L : Type 0} (told : L → LinkState) where
  -- the links that came back were served one after another by the reader that stands so now, and ended so. It is so while a link is out,
  -- too
  pub record ReadLinksServed (s : Attributes) (g : GlassState) (count : CountState L) (ends : List SessionEnd) : Type 0 where
    pub back : count.back ≡ length ends
    -- one a link, in order
    pub served : List ReadLink
    pub ends_are : ends ≡ map (λ (l : ReadLink). l.end) served
    pub each : All (WasRead s g) served
    pub kept_are : ReadLinksAreKept told count.keeps count.kept served
    pub counted : All (IsCounted (sums_of count)) ends
    -- an accept failed only where the count of faults says it
    pub failed : 0 < count.failed → 0 < count.read_faults

  -- a worker has met the end of the links, and all that it was given are back
  pub record ReadWorkerServed (s : Attributes) (door : DoorState L) (g : GlassState) (count : CountState L) (ends : List SessionEnd) : Type 0 where
    pub links : ReadLinksServed s g count ends
    pub all_back : count.given ≡ count.back
    pub ended : count.ended ≡ true
    pub is_of : IsOf door count
    pub sound : IsSound count
