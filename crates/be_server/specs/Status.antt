-- The codes and texts of statuses, and the statuses of faults.
use Rattle.std.specs.Prelude.{ℕ, List, [], ◌∷◌, ◌++◌, Option, Some, None, codes, decimal}
use Rattle.be_event.specs.declared.schema_texts.SchemaFault.{SchemaFault}
use Rattle.be_event.specs.declared.schema_texts.SchemaFault.TheVariants as schema
use Rattle.be_io.specs.declared.faults.ShelfFault.{ShelfFault}
use Rattle.be_io.specs.declared.faults.ShelfFault.TheVariants as shelf
use Rattle.be_desk.specs.Rifts.{numbers_of}
use Rattle.be_event.specs.Declarations.{kind_name}
use Rattle.be_follow.specs.Faults as feeds
use Rattle.be_follow.specs.declared.faults.FeedFault.{FeedFault}
use Rattle.be_follow.specs.declared.faults.FeedFault.TheVariants as feed
use Rattle.be_hub.specs.declared.close.CloseFault.{CloseFault}
use Rattle.be_hub.specs.declared.close.CloseFault.TheVariants as close
use Rattle.be_hub.specs.declared.serving.ServeFault.{ServeFault}
use Rattle.be_hub.specs.declared.serving.ServeFault.TheVariants as serving
use Rattle.be_mirror.specs.declared.serving.MirrorFault.{MirrorFault}
use Rattle.be_mirror.specs.declared.serving.MirrorFault.TheVariants as mirroring
use Rattle.be_protocol.specs.declared.ends.SessionEnd.{SessionEnd}
use Rattle.be_protocol.specs.declared.ends.SessionEnd.TheVariants as ends
use Rattle.be_load_files.specs.Faults as tables
use Rattle.be_load_files.specs.declared.faults.TableFault.{TableFault}
use Rattle.be_load_files.specs.declared.faults.TableFault.TheVariants as table
use Rattle.be_server.specs.declared.status.Status.{Status}
use Rattle.be_server.specs.declared.status.Status.TheVariants.{Done, Words, SchemaBad, LoadBad, FeedBad, NoMemory, ReadFault, LongFile, WriteFault, Spent, Split, Ahead, Stray, Shut}

abbrev pub code_of : Status → ℕ
code_of Done = 0
code_of Words = 2
code_of (SchemaBad line kind) = 3
code_of (LoadBad line kind) = 3
code_of (FeedBad line kind) = 3
code_of ReadFault = 4
code_of LongFile = 4
code_of WriteFault = 5
code_of NoMemory = 6
code_of (Split rift) = 7
code_of (Ahead beyond) = 7
code_of Spent = 8
code_of (Stray stray) = 9
code_of (Shut shade) = 10

-- what is printed of a status
abbrev pub status_text : Status → List ℕ
status_text Done = []
status_text Words = codes "words refused"
status_text (SchemaBad line kind) = codes "schema line " ++ decimal line ++ codes ": " ++ kind_name kind
status_text (LoadBad line kind) = codes "load line " ++ decimal line ++ codes ": " ++ tables.kind_name kind
status_text (FeedBad line kind) = codes "feed line " ++ decimal line ++ codes ": " ++ feeds.kind_name kind
status_text NoMemory = codes "out of memory"
status_text ReadFault = codes "read fault"
status_text LongFile = codes "file over 67108864 bytes"
status_text WriteFault = codes "write fault"
status_text Spent = codes "input over 1099511627776 bytes"
status_text (Split rift) = codes "split " ++ decimal (numbers_of rift).seen ++ 32 ∷ decimal (numbers_of rift).written
status_text (Ahead beyond) = codes "ahead " ++ decimal beyond.known ++ 32 ∷ decimal beyond.published
status_text (Stray stray) = codes "stray " ++ decimal stray.at
status_text (Shut shade) = codes "reader refused"

-- the status of a run whose session ended so. It never ends by a SPLIT
abbrev pub status_of : SessionEnd → Option Status
status_of ends.Eof = Some Done
status_of ends.Quit = Some Done
status_of ends.ReadFault = Some ReadFault
status_of ends.WriteFault = Some WriteFault
status_of ends.Spent = Some Spent
status_of ends.NoMemory = Some NoMemory
status_of (ends.Split seen written) = None

-- the status where a file couldn't be read, and where its schema or its table has a fault
abbrev pub status_of_shelf : ShelfFault → Status
status_of_shelf shelf.Failed = ReadFault
status_of_shelf shelf.Long = LongFile
status_of_shelf shelf.NoMemory = NoMemory

abbrev pub status_of_schema : SchemaFault → Status
status_of_schema (schema.Line line kind) = SchemaBad line kind
status_of_schema schema.NoMemory = NoMemory

abbrev pub status_of_table : TableFault → Status
status_of_table (table.Line line kind) = LoadBad line kind
status_of_table table.NoMemory = NoMemory

-- the status where a hub gave no list
abbrev pub status_of_close : CloseFault → Status
status_of_close (close.Split rift) = Split rift
status_of_close (close.Stray stray) = Stray stray
status_of_close close.NoMemory = NoMemory

-- the same where the links of a door were to be served
abbrev pub status_of_serve : ServeFault → Status
status_of_serve serving.Failed = ReadFault
status_of_serve (serving.Split rift) = Split rift
status_of_serve (serving.Stray stray) = Stray stray
status_of_serve serving.NoMemory = NoMemory

-- the same where a feed was to be mirrored
abbrev pub status_of_mirror : MirrorFault → Status
status_of_mirror mirroring.Failed = ReadFault
status_of_mirror (mirroring.Ahead beyond) = Ahead beyond
status_of_mirror mirroring.NoMemory = NoMemory

-- the status where a feed has a fault, or memory was wanting to it
abbrev pub status_of_feed : FeedFault → Status
status_of_feed (feed.Bad line kind) = FeedBad line kind
status_of_feed (feed.NoMemory taken) = NoMemory
