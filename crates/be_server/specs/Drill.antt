-- The promise of `drill`: what it prints, how it may end, and what was then written.
use Rattle.std.specs.Prelude.{◌≡◌, ℕ, ◌+◌, ◌++◌, ◌⊎◌, Bool, true, false, List, [], ◌∷◌, length, map, Option, Result, Ok, Err, codes, decimal}
use Rattle.std.specs.List.{flat_map}
use Rattle.std.specs.declared.alloc.Global.{Global}
use Rattle.std.specs.declared.vec.Vec.{Vec}
use Rattle.be_base.specs.Text.{Text}
use Rattle.be_change.specs.History.{Entry}
use Rattle.be_change.specs.Opening.{opening_of}
use Rattle.be_expr.specs.Changes.{change_text}
use Rattle.be_hub.specs.Transcripts.{AreServed}
use Rattle.be_io.specs.Counts.{HasRisen}
use Rattle.be_io.specs.Sink.{SinkState}
use Rattle.be_io.specs.declared.faults.SinkFault.{SinkFault}
use Rattle.be_io.specs.declared.faults.SinkFault.TheVariants as sink
use Rattle.be_model.specs.declared.changes.Row.{Row}
use Rattle.be_model.specs.Schemas.{Attributes}
use Rattle.be_server.specs.declared.scripts.DrillFiles.{DrillFiles}
use Rattle.be_server.specs.declared.status.Status.{Status}
use Rattle.be_server.specs.declared.status.Status.TheVariants.{Done, SchemaBad, LoadBad, NoMemory, ReadFault, LongFile, WriteFault, Split, Stray, Shut}
use Rattle.be_server.specs.Files.{ToldFile, RunFiles, run_files, FileReads, FileIsLong, IsSchemaOf, AreRowsOf, SchemaIsBad, LoadIsBad, OneIsLong}
use Rattle.be_server.specs.Outside.{Passage}
use Rattle.be_server.specs.Output.{WroteOut}

-- the files of a drill: those of a run, and the sessions'
pub record ToldFiles : Type 0 where
  pub run : RunFiles
  pub scripts : List ToldFile

abbrev pub drill_files : (Text → ToldFile) → Text → Option Text → List Text → ToldFiles
drill_files content schema load files = record { run = run_files content schema load; scripts = map content files }

-- the sessions' files are there, are within the limit and hold these bytes, where the shelf tells of them
abbrev pub AreScripts : List ToldFile → List Text → Type 0
AreScripts [] [] = Unit {0}
AreScripts (file ∷ files) (script ∷ scripts) = FileReads (λ text. text) file script × AreScripts files scripts
AreScripts _ _ = ⊥

-- what the files of a drill are
pub record FilesHold (files : ToldFiles) (schema : Attributes) (rows : List Row) (scripts : List Text) : Type 0 where
  pub is_schema : IsSchemaOf files.run.schema schema
  pub are_rows : AreRowsOf schema files.run.load rows
  pub are_scripts : AreScripts files.scripts scripts

-- the first of these files that isn't as it should be is over the limit
abbrev pub FirstIsLong : List ToldFile → Type 0
FirstIsLong [] = ⊥
FirstIsLong (file ∷ files) = FileIsLong file ⊎ ((script : Text) × FileReads (λ text. text) file script × FirstIsLong files)

-- a file that was read is over the limit: one of the run's, or, where these are good, a session's
abbrev pub SomeIsLong : ToldFiles → Type 0
SomeIsLong files =
    OneIsLong files.run
    ⊎ ((schema : Attributes) × (rows : List Row) × IsSchemaOf files.run.schema schema × AreRowsOf schema files.run.load rows × FirstIsLong files.scripts)

-- the sessions' files, or why there are none. The shelf's count of faults rose only where the shelf failed
abbrev pub LoadsScripts : List ToldFile → ℕ → ℕ → Result (Vec (Vec ℕ Global) Global) Status → Type 0
LoadsScripts files faults faults' (Ok scripts) = (faults' ≡ faults) × AreScripts files (map (λ (script : Vec ℕ Global). script.items) scripts.items)
LoadsScripts files faults faults' (Err ReadFault) = HasRisen faults faults'
LoadsScripts files faults faults' (Err LongFile) = (faults' ≡ faults) × FirstIsLong files
LoadsScripts files faults faults' (Err NoMemory) = faults' ≡ faults
LoadsScripts files faults faults' (Err _) = ⊥

-- the files of a drill, each of which is read and judged before the next one, or why there are none
abbrev pub LoadsDrill : ToldFiles → ℕ → ℕ → Result DrillFiles Status → Type 0
LoadsDrill files faults faults' (Ok l) = (faults' ≡ faults) × FilesHold files l.schema l.rows.items (map (λ (script : Vec ℕ Global). script.items) l.scripts.items)
LoadsDrill files faults faults' (Err ReadFault) = HasRisen faults faults'
LoadsDrill files faults faults' (Err LongFile) = (faults' ≡ faults) × SomeIsLong files
LoadsDrill files faults faults' (Err NoMemory) = faults' ≡ faults
LoadsDrill files faults faults' (Err (SchemaBad line kind)) = (faults' ≡ faults) × SchemaIsBad files.run line kind
LoadsDrill files faults faults' (Err (LoadBad line kind)) = (faults' ≡ faults) × LoadIsBad files.run line kind
LoadsDrill files faults faults' (Err _) = ⊥

-- a transcript under the number of its file
abbrev pub under : ℕ → Text → Text
under n transcript = codes "== " ++ (decimal n ++ (10 ∷ transcript))

-- the transcripts, the first of which is of the file with this number
abbrev pub headed : ℕ → List Text → Text
headed n [] = []
headed n (transcript ∷ transcripts) = under n transcript ++ headed (n + 1) transcripts

abbrev pub log_lines : Attributes → List Entry → Text
log_lines s h = flat_map (λ (e : Entry). change_text s e ++ 10 ∷ []) h

-- the list, a change a line, under its length
abbrev pub log_text : Attributes → List Entry → Text
log_text s h = codes "== LOG " ++ (decimal (length h) ++ (10 ∷ log_lines s h))

abbrev pub drill_text : Attributes → List Text → List Entry → Text
drill_text s transcripts h = headed 1 transcripts ++ log_text s h

-- the sessions of the files were served over one list, which was printed behind their transcripts: whole, or a beginning of it
-- all, or whole and not all handed on. Each transcript is legal over the list, which is well formed, begins with the rows, and has the sessions' changes alone
-- behind them. Where a session's read was refused, some reply is SHUT; otherwise none is. Each session has a box of letters
pub record Printed (s : Attributes) (rows : List Row) (scripts : List Text) (shuts : Bool) (before after : SinkState) (result : Result (Unit {0}) SinkFault) : Type 0 where
  pub list : List Entry
  pub transcripts : List Text
  pub served : AreServed s (opening_of rows) list shuts scripts transcripts
  pub written : WroteOut before after (drill_text s transcripts list) result

-- how the output ended, where P says what was written by whether it was refused
abbrev pub EndsAfter : (Result (Unit {0}) SinkFault → Type 0) → (shuts : Bool) → Status → Type 0
EndsAfter P shuts Done = (shuts ≡ false) × P (Ok tt)
EndsAfter P shuts (Shut shade) = (shuts ≡ true) × P (Ok tt)
EndsAfter P shuts WriteFault = P (Err sink.Failed)
EndsAfter P shuts NoMemory = P (Err sink.NoMemory)
EndsAfter P shuts _ = ⊥

-- how the sessions of some files may end, where Prints says what was then written, by whether a session's read was refused.
-- Kept says that the output is as it was
abbrev pub SessionsEnd : Type 0 → (Bool → Result (Unit {0}) SinkFault → Type 0) → Status → Type 0
SessionsEnd Kept Prints Done = Prints false (Ok tt)
SessionsEnd Kept Prints (Shut shade) = Prints true (Ok tt)
SessionsEnd Kept Prints WriteFault = (shuts : Bool) × Prints shuts (Err sink.Failed)
-- before anything was written, or in the output
SessionsEnd Kept Prints NoMemory = Kept ⊎ ((shuts : Bool) × Prints shuts (Err sink.NoMemory))
-- no list keeps the words of all sessions, and none is printed
SessionsEnd Kept Prints (Split rift) = Kept
SessionsEnd Kept Prints (Stray stray) = Kept
SessionsEnd Kept Prints _ = ⊥

-- what a command prints of sessions, by the schema, the rows and the files that it served
abbrev pub Printing : Type 1
Printing = Attributes → List Row → List Text → (shuts : Bool) → Result (Unit {0}) SinkFault → Type 0

-- the files are as they should be, and the sessions ended so
pub record Ran (Kept : Type 0) (Prints : Printing) (files : ToldFiles) (status : Status) : Type 0 where
  pub schema : Attributes
  pub rows : List Row
  pub scripts : List Text
  pub good : FilesHold files schema rows scripts
  pub runs : SessionsEnd Kept (Prints schema rows scripts) status

-- how a command that serves files may end
module _ {L : Type 0} (p : Passage L) (Prints : Printing) (files : ToldFiles) where
  abbrev pub FilesEnd : Status → Type 0
  FilesEnd (SchemaBad line kind) = (p.after.shelf ≡ p.before.shelf) × p.OutKept × SchemaIsBad files.run line kind
  FilesEnd (LoadBad line kind) = (p.after.shelf ≡ p.before.shelf) × p.OutKept × LoadIsBad files.run line kind
  FilesEnd LongFile = (p.after.shelf ≡ p.before.shelf) × p.OutKept × SomeIsLong files
  FilesEnd ReadFault = HasRisen p.before.shelf p.after.shelf × p.OutKept
  FilesEnd NoMemory = (p.after.shelf ≡ p.before.shelf) × (p.OutKept ⊎ Ran p.OutKept Prints files NoMemory)
  FilesEnd status = (p.after.shelf ≡ p.before.shelf) × Ran p.OutKept Prints files status

abbrev pub RunsDrill : Type 0 → Attributes → List Row → List Text → SinkState → SinkState → Status → Type 0
RunsDrill Kept s rows scripts before after status = SessionsEnd Kept (λ shuts result. Printed s rows scripts shuts before after result) status

module _ {L : Type 0} (p : Passage L) where
  abbrev pub prints_drill : Printing
  prints_drill s rows scripts shuts result = Printed s rows scripts shuts p.before.link.sink p.after.link.sink result

  abbrev pub DrillEnds : ToldFiles → Status → Type 0
  DrillEnds files status = FilesEnd p prints_drill files status
