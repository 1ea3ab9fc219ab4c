-- The files that a command reads.
use Rattle.std.specs.Prelude.{◌≡◌, ℕ, ◌<◌, ◌≤◌, ◌⊎◌, List, [], ◌∷◌, length, Option, Some, None, option_map, Result, Ok, Err}
use Rattle.std.specs.declared.alloc.Global.{Global}
use Rattle.std.specs.declared.vec.Vec.{Vec}
use Rattle.be_base.specs.Text.{Text}
use Rattle.be_base.specs.declared.limits.TheConstants.{FILE_BYTES}
use Rattle.be_change.specs.Opening.{IsTable}
use Rattle.be_event.specs.declared.schema_texts.SchemaFault.TheVariants as schema
use Rattle.be_event.specs.declared.schema_texts.SchemaKind.{SchemaKind}
use Rattle.be_event.specs.SchemaTexts.{schema_of}
use Rattle.be_io.specs.Counts.{HasRisen}
use Rattle.be_io.specs.Shelf.{HoldsFile}
use Rattle.be_model.specs.declared.changes.Row.{Row}
use Rattle.be_model.specs.Schemas.{Attributes, IsSchema}
use Rattle.be_load_files.specs.declared.faults.TableFault.TheVariants as table
use Rattle.be_load_files.specs.declared.faults.TableKind.{TableKind}
use Rattle.be_load_files.specs.Tables.{table_of}
use Rattle.be_server.specs.declared.files.Loaded.{Loaded}
use Rattle.be_server.specs.declared.status.Status.{Status}
use Rattle.be_server.specs.declared.status.Status.TheVariants.{SchemaBad, LoadBad, NoMemory, ReadFault, LongFile}

-- what a shelf tells of a file: nothing, or that there is none, or what it holds
abbrev pub ToldFile : Type 0
ToldFile = Option (Option (List ℕ))

-- the files of a run: its schema's, and that of its opening table, where it has one
pub record RunFiles : Type 0 where
  pub schema : ToldFile
  pub load : Option ToldFile

-- the names of a run's files
abbrev pub run_names : Text → Option Text → List Text
run_names schema None = schema ∷ []
run_names schema (Some load) = schema ∷ load ∷ []

abbrev pub run_files : (Text → ToldFile) → Text → Option Text → RunFiles
run_files content schema load = record { schema = content schema; load = option_map content load }

-- the file is there, is within the limit and is read as this, where the shelf tells of it
abbrev pub FileReads : {A : Type 0} → (List ℕ → A) → ToldFile → A → Type 0
FileReads reader file read = HoldsFile file (λ text. (length text ≤ FILE_BYTES) × (reader text ≡ read))

abbrev pub FileIsLong : ToldFile → Type 0
FileIsLong file = HoldsFile file (λ text. FILE_BYTES < length text)

abbrev pub IsSchemaOf : ToldFile → Attributes → Type 0
IsSchemaOf file s = IsSchema s × FileReads schema_of file (Ok s)

-- a load file is named, and this is true of it
abbrev pub IfLoads : Option ToldFile → (ToldFile → Type 0) → Type 0
IfLoads None P = ⊥
IfLoads (Some file) P = P file

-- the rows that the load file is, or none without one
abbrev pub TableReads : Attributes → Option ToldFile → List Row → Type 0
TableReads s None rows = rows ≡ []
TableReads s (Some file) rows = FileReads (table_of s) file (Ok rows)

abbrev pub AreRowsOf : Attributes → Option ToldFile → List Row → Type 0
AreRowsOf s load rows = IsTable rows × TableReads s load rows

-- the first fault of the schema
abbrev pub SchemaIsBad : RunFiles → ℕ → SchemaKind → Type 0
SchemaIsBad files line kind = FileReads schema_of files.schema (Err (schema.Line line kind))

-- the schema is good, and this is true of the load file
abbrev pub OfLoad : RunFiles → (Attributes → ToldFile → Type 0) → Type 0
OfLoad files P = (s : Attributes) × IsSchemaOf files.schema s × IfLoads files.load (P s)

-- the first fault of the load file
abbrev pub LoadIsBad : RunFiles → ℕ → TableKind → Type 0
LoadIsBad files line kind = OfLoad files (λ s file. FileReads (table_of s) file (Err (table.Line line kind)))

-- a file that was read is over the limit
abbrev pub OneIsLong : RunFiles → Type 0
OneIsLong files = FileIsLong files.schema ⊎ OfLoad files (λ s file. FileIsLong file)

-- the schema of a file, or why there is none. The shelf's count of faults rose only where the shelf failed
abbrev pub LoadsSchema : ToldFile → ℕ → ℕ → Result Attributes Status → Type 0
LoadsSchema file faults faults' (Ok s) = (faults' ≡ faults) × IsSchemaOf file s
LoadsSchema file faults faults' (Err ReadFault) = HasRisen faults faults'
LoadsSchema file faults faults' (Err LongFile) = (faults' ≡ faults) × FileIsLong file
LoadsSchema file faults faults' (Err NoMemory) = faults' ≡ faults
LoadsSchema file faults faults' (Err (SchemaBad line kind)) = (faults' ≡ faults) × FileReads schema_of file (Err (schema.Line line kind))
LoadsSchema file faults faults' (Err _) = ⊥

-- the rows of a load file, or why there are none
abbrev pub LoadsTable : Attributes → ToldFile → ℕ → ℕ → Result (Vec Row Global) Status → Type 0
LoadsTable s file faults faults' (Ok rows) = (faults' ≡ faults) × AreRowsOf s (Some file) rows.items
LoadsTable s file faults faults' (Err ReadFault) = HasRisen faults faults'
LoadsTable s file faults faults' (Err LongFile) = (faults' ≡ faults) × FileIsLong file
LoadsTable s file faults faults' (Err NoMemory) = faults' ≡ faults
LoadsTable s file faults faults' (Err (LoadBad line kind)) = (faults' ≡ faults) × FileReads (table_of s) file (Err (table.Line line kind))
LoadsTable s file faults faults' (Err _) = ⊥

-- what the files of a run are, or why they are nothing: each is read and judged before the next one
abbrev pub LoadsRun : RunFiles → ℕ → ℕ → Result Loaded Status → Type 0
LoadsRun files faults faults' (Ok l) = (faults' ≡ faults) × IsSchemaOf files.schema l.schema × AreRowsOf l.schema files.load l.rows.items
LoadsRun files faults faults' (Err ReadFault) = HasRisen faults faults'
LoadsRun files faults faults' (Err LongFile) = (faults' ≡ faults) × OneIsLong files
LoadsRun files faults faults' (Err NoMemory) = faults' ≡ faults
LoadsRun files faults faults' (Err (SchemaBad line kind)) = (faults' ≡ faults) × SchemaIsBad files line kind
LoadsRun files faults faults' (Err (LoadBad line kind)) = (faults' ≡ faults) × LoadIsBad files line kind
LoadsRun files faults faults' (Err _) = ⊥
