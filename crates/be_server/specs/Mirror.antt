-- The promise of `mirror`: what it prints, how it may end, and what was then read, written and made of the door.
use Rattle.std.specs.Prelude.{◌≡◌, ℕ, ◌<◌, ◌≤◌, ◌++◌, ◌⊎◌, Bool, true, false, List, [], ◌∷◌, All, Ok, Err, codes, decimal}
use Rattle.be_base.specs.Text.{Text}
use Rattle.be_base.specs.declared.limits.TheConstants.{SOURCE_BYTES}
use Rattle.be_door.specs.Door.{DoorState}
use Rattle.be_door.specs.declared.sums.Sums.{Sums}
use Rattle.be_event.specs.SchemaTexts.{schema_of}
use Rattle.be_event.specs.declared.schema_texts.SchemaFault.TheVariants as schema
use Rattle.be_hub.specs.Files.{IsRead}
use Rattle.be_hub.specs.Serving.{AreFaultless, served_door}
use Rattle.be_io.specs.Counts.{HasRisen}
use Rattle.be_io.specs.Outside.{LinkState}
use Rattle.be_io.specs.Sink.{SinkState}
use Rattle.be_io.specs.declared.faults.SinkFault.TheVariants as sink
use Rattle.be_mirror.specs.Serving.{ReadLink, Mirrors, IsAhead, DoorAfterMirrorFault}
use Rattle.be_mirror.specs.declared.feeding.FeedEnd.{FeedEnd}
use Rattle.be_mirror.specs.declared.feeding.FeedEnd.TheVariants as feed
use Rattle.be_mirror.specs.declared.serving.MirrorFault.{MirrorFault}
use Rattle.be_mirror.specs.declared.serving.MirrorFault.TheVariants as fault
use Rattle.be_model.specs.Schemas.{Attributes}
use Rattle.be_server.specs.declared.status.Status.{Status}
use Rattle.be_server.specs.declared.status.Status.TheVariants.{Done, SchemaBad, FeedBad, NoMemory, ReadFault, LongFile, WriteFault, Spent, Ahead, Shut}
use Rattle.be_server.specs.Files.{ToldFile, FileReads, FileIsLong, IsSchemaOf}
use Rattle.be_server.specs.Outside.{Passage}
use Rattle.be_server.specs.Output.{WroteOut}

-- how many links were given out, and the length of the list
abbrev pub mirror_text : (links n : ℕ) → Text
mirror_text links n = codes "MIRRORED " ++ (decimal links ++ (32 ∷ (decimal n ++ (10 ∷ []))))

-- the feed has no faulty line
abbrev pub FeedIsGood : FeedEnd → Type 0
FeedIsGood (feed.Bad line kind) = ⊥
FeedIsGood end = Unit {0}

-- and no read of it failed
abbrev pub FeedIsSound : FeedEnd → Type 0
FeedIsSound (feed.Bad line kind) = ⊥
FeedIsSound feed.ReadFault = ⊥
FeedIsSound end = Unit {0}

-- and it came to its end, or was left, as the code does once all links were served
abbrev pub FeedIsOver : FeedEnd → Type 0
FeedIsOver feed.Ended = Unit {0}
FeedIsOver feed.Left = Unit {0}
FeedIsOver end = ⊥

-- once all links were served: how the end of the feed, these numbers of the links, a refused reader and the output decide the
-- status, and how the line was written. The first that applies is named: want of memory in the output, a faulty line of the feed,
-- a read fault of the input, a link or an accept, a write fault of a link or of the output, 2^40 bytes of the input or of a link,
-- a reader that was refused
module _ (end : FeedEnd) (sums : Sums) (shuts : Bool) (text : Text) (before after : SinkState) where
  abbrev pub LineIsWritten : Type 0
  LineIsWritten = WroteOut before after text (Ok tt)

  abbrev pub LineIsRefused : Type 0
  LineIsRefused = WroteOut before after text (Err sink.Failed)

  abbrev pub Reflects : Status → Type 0
  Reflects Done = FeedIsOver end × AreFaultless sums × (shuts ≡ false) × LineIsWritten
  Reflects (Shut shade) = FeedIsOver end × AreFaultless sums × (shuts ≡ true) × LineIsWritten
  Reflects Spent =
      FeedIsSound end × (sums.read_faults ≡ 0) × (sums.write_faults ≡ 0) × ((end ≡ feed.Spent) ⊎ (SOURCE_BYTES ≤ sums.most)) × LineIsWritten
  Reflects WriteFault = FeedIsSound end × (sums.read_faults ≡ 0) × (((0 < sums.write_faults) × LineIsWritten) ⊎ LineIsRefused)
  Reflects ReadFault = FeedIsGood end × ((end ≡ feed.ReadFault) ⊎ (0 < sums.read_faults)) × (LineIsWritten ⊎ LineIsRefused)
  Reflects (FeedBad line kind) = (end ≡ feed.Bad line kind) × (LineIsWritten ⊎ LineIsRefused)
  Reflects NoMemory = WroteOut before after text (Err sink.NoMemory)
  Reflects _ = ⊥

-- what is known where nothing is printed: the door can't listen, and nothing was read; or memory was wanting, be it before the door
-- was tried, when nothing was read; or a reader knows more than what is published, once all links came back
abbrev pub Fails : {L : Type 0} → (InputKept : Type 0) → DoorState L → DoorState L → (port links seats : ℕ) → MirrorFault → Type 0
Fails InputKept door door' port links seats fault.Failed = InputKept × DoorAfterMirrorFault door door' port links seats fault.Failed
Fails InputKept door door' port links seats fault.NoMemory = (InputKept × (door' ≡ door)) ⊎ DoorAfterMirrorFault door door' port links seats fault.NoMemory
Fails InputKept door door' port links seats (fault.Ahead beyond) = DoorAfterMirrorFault door door' port links seats (fault.Ahead beyond)

-- all links were given out and came back, and each was read to its end or to a QUIT
pub record MirrorLinksWereRead (links : ℕ) (sums : Sums) (served : List ReadLink) : Type 0 where
  pub given : sums.given ≡ links
  pub back : sums.back ≡ links
  pub each : All (λ (l : ReadLink). IsRead l.end) served

module _ {L : Type 0} (told : L → LinkState) where
  -- all links were served beside the feed, over the list that it means, and the line of both was printed: whole, or a beginning of
  -- it, or whole and not all handed on
  pub record Mirrored (s : Attributes) (port seats links : ℕ) (before after : LinkState) (door door' : DoorState L) (status : Status) : Type 0 where
    pub end : FeedEnd
    pub len : ℕ
    pub sums : Sums
    pub shuts : Bool
    pub mirrors : Mirrors told s before.source after.source end len links shuts sums door'.keeps door'.kept
    pub door_is : door' ≡ served_door door port links seats sums door'.kept
    pub reflects : Reflects end sums shuts (mirror_text sums.given len) before.sink after.sink status
    pub done : status ≡ Done → MirrorLinksWereRead links sums mirrors.served.served

  -- how the run may end, in this schema. These say that the input and the output are as they were
  abbrev pub RunsMirror : (InputKept OutKept : Type 0) → Attributes → (port seats links : ℕ) → LinkState → LinkState → DoorState L → DoorState L → Status → Type 0
  -- the door can't listen; or a read or an accept failed
  RunsMirror InputKept OutKept s port seats links before after door door' ReadFault =
      (OutKept × Fails InputKept door door' port links seats fault.Failed) ⊎ Mirrored s port seats links before after door door' ReadFault
  -- before anything was written, or in the output
  RunsMirror InputKept OutKept s port seats links before after door door' NoMemory =
      (OutKept × Fails InputKept door door' port links seats fault.NoMemory) ⊎ Mirrored s port seats links before after door door' NoMemory
  RunsMirror InputKept OutKept s port seats links before after door door' (Ahead beyond) =
      OutKept × IsAhead s before.source after.source beyond × Fails InputKept door door' port links seats (fault.Ahead beyond)
  RunsMirror InputKept OutKept s port seats links before after door door' status = Mirrored s port seats links before after door door' status

module _ {L : Type 0} (p : Passage L) (port seats links : ℕ) (file : ToldFile) where
  -- the schema is good, and the run ended so
  abbrev pub MirrorRuns : Status → Type 0
  MirrorRuns status =
      (s : Attributes) × IsSchemaOf file s
      × RunsMirror p.told p.InputKept p.OutKept s port seats links p.before.link p.after.link p.before.door p.after.door status

  abbrev pub AllKept : Type 0
  AllKept = p.InputKept × p.OutKept × (p.after.door ≡ p.before.door)

  -- how it may end
  abbrev pub MirrorEnds : Status → Type 0
  MirrorEnds (SchemaBad line kind) = (p.after.shelf ≡ p.before.shelf) × AllKept × FileReads schema_of file (Err (schema.Line line kind))
  MirrorEnds LongFile = (p.after.shelf ≡ p.before.shelf) × AllKept × FileIsLong file
  MirrorEnds ReadFault = (HasRisen p.before.shelf p.after.shelf × AllKept) ⊎ ((p.after.shelf ≡ p.before.shelf) × MirrorRuns ReadFault)
  MirrorEnds NoMemory = (p.after.shelf ≡ p.before.shelf) × (AllKept ⊎ MirrorRuns NoMemory)
  MirrorEnds status = (p.after.shelf ≡ p.before.shelf) × MirrorRuns status

-- how it may end where nothing is wrong
abbrev pub EndsMirror : Status → Type 0
EndsMirror Done = Unit {0}
EndsMirror (FeedBad line kind) = Unit {0}
EndsMirror NoMemory = Unit {0}
EndsMirror (Ahead beyond) = Unit {0}
EndsMirror (Shut shade) = Unit {0}
EndsMirror _ = ⊥
