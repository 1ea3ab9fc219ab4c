-- Which status is due: the first fault of the files, or a file over the limit, is named, unless reading a file failed or memory was
-- wanting, and where nothing is wrong all is done, or memory was wanting.
use Rattle.std.specs.Prelude.{◌≡◌, ℕ, ◌<◌, ◌≤◌, ◌⊎◌, List, [], ◌∷◌, length, map, Option, Some, None, Ok, Err}
use Rattle.be_base.specs.Text.{Text}
use Rattle.be_base.specs.declared.limits.TheConstants.{SOURCE_BYTES, FILE_BYTES}
use Rattle.be_event.specs.declared.schema_texts.SchemaFault.TheVariants as schema
use Rattle.be_event.specs.declared.schema_texts.SchemaKind.{SchemaKind}
use Rattle.be_event.specs.SchemaTexts.{schema_of}
use Rattle.be_follow.specs.Feeds.{Fed, Means}
use Rattle.be_follow.specs.declared.faults.FeedKind.{FeedKind}
use Rattle.be_io.specs.Counts.{HasRisen, HasRisenBy}
use Rattle.be_model.specs.declared.changes.Row.{Row}
use Rattle.be_model.specs.Schemas.{Attributes}
use Rattle.be_load_files.specs.declared.faults.TableFault.TheVariants as table
use Rattle.be_load_files.specs.declared.faults.TableKind.{TableKind}
use Rattle.be_load_files.specs.Tables.{table_of}
use Rattle.be_command_line.specs.Words.{ProgramRequest, run, gen, cover, drill, serve, heat, follow, mirror}
use Rattle.be_server.specs.declared.status.Status.{Status}
use Rattle.be_server.specs.declared.status.Status.TheVariants.{Done, SchemaBad, LoadBad, FeedBad, NoMemory, ReadFault, LongFile, Split, Stray, Shut}
use Rattle.be_server.specs.Files.{ToldFile, RunFiles, run_files}
use Rattle.be_server.specs.Follow.{FollowFiles, follow_files}
use Rattle.be_server.specs.Mirror.{EndsMirror}
use Rattle.be_server.specs.Outside.{Passage}
use Rattle.be_server.specs.Serve.{AreQuiet, EndsServe}

-- no count of faults rose, and the source gave less than 2^40 bytes
pub record IsFaultless {L : Type 0} (p : Passage L) : Type 0 where
  pub shelf : HasRisen p.before.shelf p.after.shelf → ⊥
  pub source : HasRisen p.before.link.source.faults p.after.link.source.faults → ⊥
  pub bytes : HasRisenBy SOURCE_BYTES p.before.link.source.taken p.after.link.source.taken → ⊥
  pub sink : HasRisen p.before.link.sink.faults p.after.link.sink.faults → ⊥

-- the shelf failed, and its count rose, or memory was wanting, and it didn't
abbrev pub FileIsRefused : {L : Type 0} → Passage L → Status → Type 0
FileIsRefused p status =
    ((status ≡ ReadFault) × HasRisen p.before.shelf p.after.shelf) ⊎ ((status ≡ NoMemory) × (p.after.shelf ≡ p.before.shelf))

-- the shelf tells of the file, which is within the limit and is read as this
abbrev pub ToldAs : {A : Type 0} → (List ℕ → A) → ToldFile → A → Type 0
ToldAs reader file read = (text : List ℕ) × (file ≡ Some (Some text)) × (length text ≤ FILE_BYTES) × (reader text ≡ read)

abbrev pub ToldLong : ToldFile → Type 0
ToldLong file = (text : List ℕ) × (file ≡ Some (Some text)) × (FILE_BYTES < length text)

-- the shelf tells that the schema is good, and there is no load file or it is good too
abbrev pub LoadIsGood : Attributes → Option ToldFile → Type 0
LoadIsGood s None = Unit {0}
LoadIsGood s (Some file) = (rows : List Row) × ToldAs (table_of s) file (Ok rows)

-- what the first file holds decides the status
pub record SchemaDecides {L : Type 0} (file : ToldFile) (p : Passage L) (status : Status) : Type 0 where
  -- a faulty schema is named, or the file was refused
  pub bad : (line : ℕ) (kind : SchemaKind) → ToldAs schema_of file (Err (schema.Line line kind)) → (status ≡ SchemaBad line kind) ⊎ FileIsRefused p status
  -- a file over the limit is named, or it was refused otherwise
  pub long : ToldLong file → (status ≡ LongFile) ⊎ FileIsRefused p status
  -- a missing file is refused
  pub missing : file ≡ Some None → FileIsRefused p status

-- and behind a good schema what the load file holds
pub record LoadDecides {L : Type 0} (s : Attributes) (file : ToldFile) (p : Passage L) (status : Status) : Type 0 where
  pub bad : (line : ℕ) (kind : TableKind) → ToldAs (table_of s) file (Err (table.Line line kind)) → (status ≡ LoadBad line kind) ⊎ FileIsRefused p status
  pub long : ToldLong file → (status ≡ LongFile) ⊎ FileIsRefused p status
  pub missing : file ≡ Some None → FileIsRefused p status

-- what the files of a run hold decides the status, and this is so where they are good
pub record RunIsExact {L : Type 0} (files : RunFiles) (p : Passage L) (status : Status) (Due : Type 0) : Type 0 where
  pub schema : SchemaDecides files.schema p status
  pub load : (s : Attributes) (file : ToldFile) → ToldAs schema_of files.schema (Ok s) → files.load ≡ Some file → LoadDecides s file p status
  pub good : (s : Attributes) → ToldAs schema_of files.schema (Ok s) → LoadIsGood s files.load → Due

-- where nothing is wrong all is done, want of memory aside
abbrev pub AllIsDone : {L : Type 0} → Passage L → Status → Type 0
AllIsDone p status = IsFaultless p → (status ≡ Done) ⊎ (status ≡ NoMemory)

-- how a drill may end where nothing is wrong
abbrev pub EndsDrill : Status → Type 0
EndsDrill Done = Unit {0}
EndsDrill NoMemory = Unit {0}
EndsDrill (Split rift) = Unit {0}
EndsDrill (Stray stray) = Unit {0}
EndsDrill (Shut shade) = Unit {0}
EndsDrill _ = ⊥

-- a session's file that is over the limit or missing is named or refused
pub record ScriptDecides {L : Type 0} (file : ToldFile) (p : Passage L) (status : Status) : Type 0 where
  pub long : ToldLong file → (status ≡ LongFile) ⊎ FileIsRefused p status
  pub missing : file ≡ Some None → FileIsRefused p status

-- each of the sessions' files in turn decides, where those before it are good, and where all are nothing is wrong
abbrev pub ScriptsDecide : {L : Type 0} → List ToldFile → Passage L → Status → Type 0
ScriptsDecide [] p status = IsFaultless p → EndsDrill status
ScriptsDecide (file ∷ files) p status =
    ScriptDecides file p status × ((script : List ℕ) → ToldAs (λ text. text) file script → ScriptsDecide files p status)

-- the shelf tells that this has come of the file, within the limit
abbrev pub ToldFed : Attributes → ToldFile → Fed → Type 0
ToldFed s file f = (text : List ℕ) × (file ≡ Some (Some text)) × (length text ≤ FILE_BYTES) × Means s text f

-- what the feed holds decides the status, behind a good schema
pub record FeedDecides {L : Type 0} (s : Attributes) (file : ToldFile) (p : Passage L) (status : Status) : Type 0 where
  pub bad : (f : Fed) (kind : FeedKind) → ToldFed s file f → f.fault ≡ Some kind → (status ≡ FeedBad f.lines kind) ⊎ FileIsRefused p status
  pub long : ToldLong file → (status ≡ LongFile) ⊎ FileIsRefused p status
  pub missing : file ≡ Some None → FileIsRefused p status

-- what the files of a follower hold decides the status, and this is so where they are good
pub record FollowIsExact {L : Type 0} (files : FollowFiles) (p : Passage L) (status : Status) (Due : Type 0) : Type 0 where
  pub schema : SchemaDecides files.schema p status
  pub feed : (s : Attributes) → ToldAs schema_of files.schema (Ok s) → FeedDecides s files.feed p status
  pub good : (s : Attributes) (f : Fed) → ToldAs schema_of files.schema (Ok s) → ToldFed s files.feed f → f.fault ≡ None → Due

-- for all commands but `gen` what the files hold decides. Where no write failed, all of `gen` is done, want of memory aside
module _ {L : Type 0} (p : Passage L) where
  -- what is due of a run with these files
  abbrev pub RunsExactly : Text → Option Text → Status → Type 0 → Type 0
  RunsExactly schema load status Due = RunIsExact (run_files p.before.content schema load) p status Due

  abbrev pub LinksAreQuiet : Type 0
  LinksAreQuiet = AreQuiet p.before.door p.after.door p.before.link.sink p.after.link.sink

  abbrev pub EndsExactly : Option ProgramRequest → Status → Type 0
  EndsExactly None status = Unit {0}
  EndsExactly (Some (run schema load)) status = RunsExactly schema load status (AllIsDone p status)
  EndsExactly (Some (gen number subs events)) status =
      (HasRisen p.before.link.sink.faults p.after.link.sink.faults → ⊥) → (status ≡ Done) ⊎ (status ≡ NoMemory)
  EndsExactly (Some (cover schema file name)) status = RunsExactly schema (Some file) status (AllIsDone p status)
  EndsExactly (Some (drill schema load rounds files)) status =
      RunsExactly schema load status (ScriptsDecide (map p.before.content files) p status)
  EndsExactly (Some (serve schema load port seats links)) status =
      RunsExactly schema load status (IsFaultless p → LinksAreQuiet → EndsServe status)
  EndsExactly (Some (heat schema rounds files)) status = RunsExactly schema None status (ScriptsDecide (map p.before.content files) p status)
  EndsExactly (Some (follow schema file)) status = FollowIsExact (follow_files p.before.content schema file) p status (AllIsDone p status)
  EndsExactly (Some (mirror schema port seats links)) status = RunsExactly schema None status (IsFaultless p → LinksAreQuiet → EndsMirror status)
