-- The promise of `serve`: what it prints, how it may end, and what was then written and made of the door.
use Rattle.std.specs.Prelude.{◌≡◌, ℕ, ◌<◌, ◌≤◌, ◌++◌, ◌⊎◌, Bool, true, false, List, [], ◌∷◌, length, Ok, Err, codes, decimal}
use Rattle.be_base.specs.Text.{Text}
use Rattle.be_base.specs.declared.limits.TheConstants.{SOURCE_BYTES}
use Rattle.be_change.specs.History.{Entry}
use Rattle.be_change.specs.Opening.{opening_of}
use Rattle.be_door.specs.Door.{DoorState, after_try}
use Rattle.be_door.specs.declared.sums.Sums.{Sums}
use Rattle.be_hub.specs.Serving.{AllCameBack, AreFaultless, LinksAreServed, WereRead, served_door, IsTried, LeavesDoor}
use Rattle.be_hub.specs.declared.serving.ServeFault.{ServeFault}
use Rattle.be_hub.specs.declared.serving.ServeFault.TheVariants as fault
use Rattle.be_io.specs.Counts.{HasRisen}
use Rattle.be_io.specs.Outside.{LinkState}
use Rattle.be_io.specs.Sink.{SinkState}
use Rattle.be_io.specs.declared.faults.SinkFault.TheVariants as sink
use Rattle.be_model.specs.declared.changes.Row.{Row}
use Rattle.be_model.specs.Schemas.{Attributes}
use Rattle.be_server.specs.declared.status.Status.{Status}
use Rattle.be_server.specs.declared.status.Status.TheVariants.{Done, SchemaBad, LoadBad, NoMemory, ReadFault, LongFile, WriteFault, Spent, Split, Stray, Shut}
use Rattle.be_server.specs.Drill.{log_text}
use Rattle.be_server.specs.Files.{RunFiles, IsSchemaOf, AreRowsOf, SchemaIsBad, LoadIsBad, OneIsLong}
use Rattle.be_server.specs.Outside.{Passage}
use Rattle.be_server.specs.Output.{WroteOut}

-- the list, and how many links were served over it
abbrev pub serve_text : Attributes → ℕ → List Entry → Text
serve_text s links h = log_text s h ++ (codes "SERVED " ++ (decimal links ++ (32 ∷ (decimal (length h) ++ (10 ∷ [])))))

-- once the links were served: how these numbers of theirs, a refused reader and the output decide the status, and what was then
-- written. The first that applies is named: want of memory in the output, a read fault of a link or an accept, a write fault
-- of a link or of the output, a link of 2^40 bytes, a reader that was refused
abbrev pub Logs : Attributes → List Entry → Sums → (shuts : Bool) → SinkState → SinkState → Status → Type 0
Logs s h sums shuts before after Done = AreFaultless sums × (shuts ≡ false) × WroteOut before after (serve_text s sums.given h) (Ok tt)
Logs s h sums shuts before after (Shut shade) = AreFaultless sums × (shuts ≡ true) × WroteOut before after (serve_text s sums.given h) (Ok tt)
Logs s h sums shuts before after Spent =
    (sums.read_faults ≡ 0) × (sums.write_faults ≡ 0) × (SOURCE_BYTES ≤ sums.most) × WroteOut before after (serve_text s sums.given h) (Ok tt)
Logs s h sums shuts before after WriteFault =
    (sums.read_faults ≡ 0)
    × (((0 < sums.write_faults) × WroteOut before after (serve_text s sums.given h) (Ok tt)) ⊎ WroteOut before after (serve_text s sums.given h) (Err sink.Failed))
Logs s h sums shuts before after ReadFault =
    (0 < sums.read_faults)
    × (WroteOut before after (serve_text s sums.given h) (Ok tt) ⊎ WroteOut before after (serve_text s sums.given h) (Err sink.Failed))
Logs s h sums shuts before after NoMemory = WroteOut before after (serve_text s sums.given h) (Err sink.NoMemory)
Logs s h sums shuts before after _ = ⊥

-- what is known of the door where no list is given. Memory may be wanting before it is tried, too
abbrev pub FailsAt : {L : Type 0} → DoorState L → DoorState L → (port links seats : ℕ) → ServeFault → Type 0
FailsAt door door' port links seats fault.NoMemory = (door' ≡ door) ⊎ IsTried door door' port
FailsAt door door' port links seats fault = LeavesDoor door door' port links seats fault

module _ {L : Type 0} (told : L → LinkState) where
  -- the links were served over one list, which was printed with the number of those that the door gave out: whole, or a beginning
  -- of it all, or whole and not all handed on. The list is well formed, begins with the rows, and has the changes of the links' sessions alone behind them; each
  -- link is legal over it. A session's read was refused exactly where a reply to a link is SHUT. Which links these are, a door tells that keeps them
  pub record Served (s : Attributes) (rows : List Row) (port seats links : ℕ) (door door' : DoorState L) (before after : SinkState) (status : Status) : Type 0 where
    pub list : List Entry
    pub sums : Sums
    pub shuts : Bool
    pub served : LinksAreServed told s (opening_of rows) list shuts seats links sums door'.keeps door'.kept
    pub door_is : door' ≡ served_door door port links seats sums door'.kept
    pub logs : Logs s list sums shuts before after status
    -- where all is done, all links were given out and came back, and were read to their end or to a QUIT
    pub done : status ≡ Done → WereRead links sums served.served

  -- how the sessions may end. Kept says that the output is as it was
  abbrev pub RunsServe : Type 0 → Attributes → List Row → (port seats links : ℕ) → DoorState L → DoorState L → SinkState → SinkState → Status → Type 0
  RunsServe Kept s rows port seats links door door' before after Done = Served s rows port seats links door door' before after Done
  RunsServe Kept s rows port seats links door door' before after (Shut shade) = Served s rows port seats links door door' before after (Shut shade)
  RunsServe Kept s rows port seats links door door' before after Spent = Served s rows port seats links door door' before after Spent
  RunsServe Kept s rows port seats links door door' before after WriteFault = Served s rows port seats links door door' before after WriteFault
  -- the door can't listen, or a read of a link or an accept failed
  RunsServe Kept s rows port seats links door door' before after ReadFault =
      (Kept × HasRisen door.read_faults door'.read_faults × (door' ≡ record (after_try door port) { read_faults = door'.read_faults }))
      ⊎ Served s rows port seats links door door' before after ReadFault
  -- before the door was tried, before anything was written, or in the output
  RunsServe Kept s rows port seats links door door' before after NoMemory =
      (Kept × ((door' ≡ door) ⊎ IsTried door door' port)) ⊎ Served s rows port seats links door door' before after NoMemory
  -- no list keeps the words of all sessions, and none is printed. All links that were given out were served
  RunsServe Kept s rows port seats links door door' before after (Split rift) = Kept × (sums : Sums) × AllCameBack links sums × (door' ≡ served_door door port links seats sums door'.kept)
  RunsServe Kept s rows port seats links door door' before after (Stray stray) = Kept × (sums : Sums) × AllCameBack links sums × (door' ≡ served_door door port links seats sums door'.kept)
  RunsServe Kept s rows port seats links door door' before after _ = ⊥

  -- the files are as they should be, and the sessions ended so
  pub record RanServe (Kept : Type 0) (files : RunFiles) (port seats links : ℕ) (door door' : DoorState L) (before after : SinkState) (status : Status) : Type 0 where
    pub schema : Attributes
    pub rows : List Row
    pub is_schema : IsSchemaOf files.schema schema
    pub are_rows : AreRowsOf schema files.load rows
    pub runs : RunsServe Kept schema rows port seats links door door' before after status

module _ {L : Type 0} (p : Passage L) (port seats links : ℕ) (files : RunFiles) where
  abbrev pub ServeRuns : Status → Type 0
  ServeRuns status = RanServe p.told p.OutKept files port seats links p.before.door p.after.door p.before.link.sink p.after.link.sink status

  abbrev pub OutAndDoorKept : Type 0
  OutAndDoorKept = p.OutKept × (p.after.door ≡ p.before.door)

  -- how it may end
  abbrev pub ServeEnds : Status → Type 0
  ServeEnds (SchemaBad line kind) = (p.after.shelf ≡ p.before.shelf) × OutAndDoorKept × SchemaIsBad files line kind
  ServeEnds (LoadBad line kind) = (p.after.shelf ≡ p.before.shelf) × OutAndDoorKept × LoadIsBad files line kind
  ServeEnds LongFile = (p.after.shelf ≡ p.before.shelf) × OutAndDoorKept × OneIsLong files
  ServeEnds ReadFault = (HasRisen p.before.shelf p.after.shelf × OutAndDoorKept) ⊎ ((p.after.shelf ≡ p.before.shelf) × ServeRuns ReadFault)
  ServeEnds NoMemory = (p.after.shelf ≡ p.before.shelf) × (OutAndDoorKept ⊎ ServeRuns NoMemory)
  ServeEnds status = (p.after.shelf ≡ p.before.shelf) × ServeRuns status

-- no count of faults of the door or of the output rose, and no link gave 2^40 bytes
pub record AreQuiet {L : Type 0} (door door' : DoorState L) (before after : SinkState) : Type 0 where
  pub reads : HasRisen door.read_faults door'.read_faults → ⊥
  pub writes : HasRisen door.write_faults door'.write_faults → ⊥
  pub bytes : door'.most < SOURCE_BYTES
  pub sink : HasRisen before.faults after.faults → ⊥

-- how it may end where nothing is wrong
abbrev pub EndsServe : Status → Type 0
EndsServe Done = Unit {0}
EndsServe NoMemory = Unit {0}
EndsServe (Split rift) = Unit {0}
EndsServe (Stray stray) = Unit {0}
EndsServe (Shut shade) = Unit {0}
EndsServe _ = ⊥
