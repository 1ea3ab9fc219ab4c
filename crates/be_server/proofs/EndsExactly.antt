-- What the files hold decides the status.
use Rattle.std.proofs.Common.{◌≡◌, ◌⊎◌, inl, inr, ℕ, Bool, List, [], ◌∷◌, Option, Some, None, Result, Ok, Err, refl, sym, subst}
use Rattle.be_base.specs.Text.{Text}
use Rattle.be_event.specs.declared.schema_texts.SchemaFault.{SchemaFault}
use Rattle.be_event.specs.declared.schema_texts.SchemaFault.TheVariants as schema
use Rattle.be_event.specs.declared.schema_texts.SchemaKind.{SchemaKind}
use Rattle.be_event.specs.SchemaTexts.{schema_of}
use Rattle.be_io.specs.Counts.{HasRisen}
use Rattle.be_io.specs.declared.faults.SinkFault.TheVariants as sink
use Rattle.be_model.specs.declared.changes.Row.{Row}
use Rattle.be_model.specs.Schemas.{Attributes}
use Rattle.be_load_files.specs.declared.faults.TableFault.TheVariants as table
use Rattle.be_load_files.specs.declared.faults.TableKind.{TableKind}
use Rattle.be_load_files.specs.Tables.{table_of}
use Rattle.be_command_line.specs.Words.{ProgramRequest, run, gen, cover, drill, serve, heat, follow, mirror}
use Rattle.be_server.specs.declared.status.Status.{Status}
use Rattle.be_server.specs.declared.status.Status.TheVariants.{Done, Words, SchemaBad, LoadBad, FeedBad, NoMemory, ReadFault, LongFile, WriteFault, Spent, Split, Ahead, Stray, Shut}
use Rattle.be_server.specs.Exact.{IsFaultless, FileIsRefused, ToldAs, LoadIsGood, SchemaDecides, LoadDecides, AllIsDone, EndsDrill, ScriptDecides, ScriptsDecide, RunIsExact, LinksAreQuiet, EndsExactly}
use Rattle.be_server.specs.Files.{ToldFile, RunFiles, run_files, FileReads, FileIsLong, IsSchemaOf, IfLoads, TableReads, AreRowsOf, SchemaIsBad, LoadIsBad, OneIsLong}
use Rattle.be_server.specs.Cover.{CoverEnds}
use Rattle.be_server.specs.Drill.{ToldFiles, AreScripts, FirstIsLong, SomeIsLong, FilesHold, Printing, Ran, FilesEnd, drill_files, prints_drill}
use Rattle.be_server.specs.Gen.{GenEnds}
use Rattle.be_server.specs.Outside.{Passage}
use Rattle.be_server.specs.Run.{RunEnds}
use Rattle.be_server.specs.Commands.{Ends}
use Rattle.be_server.specs.Follow.{follow_files}
use Rattle.be_server.specs.Heat.{prints_heat}
use Rattle.be_server.specs.Mirror.{EndsMirror, MirrorEnds, MirrorRuns}
use Rattle.be_server.specs.Serve.{EndsServe, RanServe, ServeEnds}
use Rattle.be_server.proofs.ServeEnds.{serve_quiet}
use Rattle.be_server.proofs.FollowExactly.{exact_follow}
use Rattle.be_server.proofs.MirrorEnds.{mirror_quiet}
use Rattle.be_server.proofs.ToldFiles.{one_reading, not_long, not_gone, not_short, long_stays, same_schema, schema_good, load_good}

-- the rows of a load file that is named
rows_named : (s : Attributes) (load : Option ToldFile) (file : ToldFile) (rows : List Row) → AreRowsOf s load rows → load ≡ Some file → FileReads (table_of s) file (Ok rows)
rows_named s load file rows are named = subst (λ (o : Option ToldFile). TableReads s o rows) named are.1

load_named : (load : Option ToldFile) (file : ToldFile) (P : ToldFile → Type 0) → IfLoads load P → load ≡ Some file → P file
load_named load file P is named = subst (λ (o : Option ToldFile). IfLoads o P) named is

good_named : (s : Attributes) (load : Option ToldFile) (P : ToldFile → Type 0) → IfLoads load P → LoadIsGood s load → (file : ToldFile) × P file × (rows : List Row) × ToldAs (table_of s) file (Ok rows)
good_named s None P is good = absurd is
good_named s (Some file) P is good = (file, is, good.0, good.1)

-- a session was served with the files, so they are as they should be, and where no call failed all is done
exact_served : {Due : Type 0} (files : RunFiles) {L : Type 0} (p : Passage L) (status : Status) (s : Attributes) (rows : List Row) → IsSchemaOf files.schema s → AreRowsOf s files.load rows → Due → RunIsExact files p status Due
exact_served files p status s rows is_schema are due = record {
  schema = schema_good files.schema s p status is_schema.1;
  load = λ t file good named.
      let same = same_schema files.schema s t is_schema.1 good in
      subst (λ (x : Attributes). LoadDecides x file p status) same (load_good s file rows p status (rows_named s files.load file rows are named));
  good = λ t good loads. due;
}

-- memory was wanting, or the shelf failed
exact_refused : {Due : Type 0} (files : RunFiles) {L : Type 0} (p : Passage L) (status : Status) → FileIsRefused p status → Due → RunIsExact files p status Due
exact_refused files p status refused due = record {
  schema = record { bad = λ line kind t. inr refused; long = λ t. inr refused; missing = λ none. refused };
  load = λ s file good named. record { bad = λ line kind t. inr refused; long = λ t. inr refused; missing = λ none. refused };
  good = λ s good loads. due;
}

-- the schema is faulty
exact_schema : {Due : Type 0} (files : RunFiles) {L : Type 0} (p : Passage L) (status : Status) (read : Result Attributes SchemaFault) → FileReads schema_of files.schema read
    → ((s : Attributes) → read ≡ Ok s → ⊥) → SchemaDecides files.schema p status → RunIsExact files p status Due
exact_schema files p status read f none decides = record {
  schema = decides;
  load = λ s file good named. absurd (none s (one_reading schema_of files.schema read (Ok s) f good));
  good = λ s good loads. absurd (none s (one_reading schema_of files.schema read (Ok s) f good));
}

exact_schema_bad : {Due : Type 0} (files : RunFiles) {L : Type 0} (p : Passage L) (l : ℕ) (k : SchemaKind) → SchemaIsBad files l k → RunIsExact files p (SchemaBad l k) Due
exact_schema_bad files p l k f = exact_schema files p (SchemaBad l k) (Err (schema.Line l k)) f (λ s e. absurd cc) (record {
  bad = λ line kind t. let same : Err (schema.Line l k) ≡ Err (schema.Line line kind) = one_reading schema_of files.schema (Err (schema.Line l k)) (Err (schema.Line line kind)) f t in inl cc;
  long = λ t. absurd (not_long schema_of files.schema (Err (schema.Line l k)) f t);
  missing = λ none. absurd (not_gone schema_of files.schema (Err (schema.Line l k)) f none);
})

-- the load file is faulty
exact_load_bad : {Due : Type 0} (files : RunFiles) {L : Type 0} (p : Passage L) (l : ℕ) (k : TableKind) → LoadIsBad files l k → RunIsExact files p (LoadBad l k) Due
exact_load_bad files p l k f =
    let s = f.0 in
    let P = λ (file : ToldFile). FileReads (table_of s) file (Err (table.Line l k)) in
    record {
      schema = schema_good files.schema s p (LoadBad l k) f.1.1;
      load = λ t file good named.
          let here = load_named files.load file P f.2 named in
          subst (λ (x : Attributes). LoadDecides x file p (LoadBad l k)) (same_schema files.schema s t f.1.1 good) (record {
            bad = λ line kind told_as. let same : Err (table.Line l k) ≡ Err (table.Line line kind) = one_reading (table_of s) file (Err (table.Line l k)) (Err (table.Line line kind)) here told_as in inl cc;
            long = λ told_long. absurd (not_long (table_of s) file (Err (table.Line l k)) here told_long);
            missing = λ none. absurd (not_gone (table_of s) file (Err (table.Line l k)) here none);
          });
      good = λ t good loads.
          let loads_s = subst (λ (x : Attributes). LoadIsGood x files.load) (sym (same_schema files.schema s t f.1.1 good)) loads in
          let named = good_named s files.load P f.2 loads_s in
          let clash : Err (table.Line l k) ≡ Ok named.2 = one_reading (table_of s) named.0 (Err (table.Line l k)) (Ok named.2) named.1 named.3 in absurd cc;
    }

-- a file is over the limit
exact_long : {Due : Type 0} (files : RunFiles) {L : Type 0} (p : Passage L) → OneIsLong files → RunIsExact files p LongFile Due
exact_long files p (inl f) = record {
  schema = record {
    bad = λ line kind t. absurd (not_short schema_of files.schema (Err (schema.Line line kind)) f t);
    long = λ t. inl refl;
    missing = λ none. absurd (long_stays files.schema f none);
  };
  load = λ s file good named. absurd (not_short schema_of files.schema (Ok s) f good);
  good = λ s good loads. absurd (not_short schema_of files.schema (Ok s) f good);
}
exact_long files p (inr f) =
    let s = f.0 in
    record {
      schema = schema_good files.schema s p LongFile f.1.1;
      load = λ t file good named.
          let here = load_named files.load file FileIsLong f.2 named in
          record {
            bad = λ line kind told_as. absurd (not_short (table_of t) file (Err (table.Line line kind)) here told_as);
            long = λ told_long. inl refl;
            missing = λ none. absurd (long_stays file here none);
          };
      good = λ t good loads.
          let named = good_named t files.load FileIsLong f.2 loads in
          absurd (not_short (table_of t) named.0 (Ok named.2) named.1 named.3);
    }

exact_run : {L : Type 0} (p : Passage L) (files : RunFiles) (status : Status) → RunEnds p files status → RunIsExact files p status (AllIsDone p status)
exact_run p files Done (_, inl r) = exact_served files p Done r.schema r.rows r.is_schema r.are_rows (λ quiet. inl refl)
exact_run p files Done (_, inr r) = exact_served files p Done r.schema r.rows r.is_schema r.are_rows (λ quiet. inl refl)
exact_run p files Words r = absurd r
exact_run p files (FeedBad l k) r = absurd r
exact_run p files (SchemaBad l k) r = exact_schema_bad files p l k r.2
exact_run p files (LoadBad l k) r = exact_load_bad files p l k r.2
exact_run p files NoMemory r = exact_refused files p NoMemory (inr (refl, r.0)) (λ quiet. inr refl)
exact_run p files ReadFault (inl r) = exact_refused files p ReadFault (inl (refl, r.0)) (λ quiet. absurd (quiet.shelf r.0))
exact_run p files ReadFault (inr r) = exact_served files p ReadFault r.1.schema r.1.rows r.1.is_schema r.1.are_rows (λ quiet. absurd (quiet.source r.1.ends.0))
exact_run p files LongFile r = exact_long files p r.2
exact_run p files WriteFault r = exact_served files p WriteFault r.1.schema r.1.rows r.1.is_schema r.1.are_rows (λ quiet. absurd (quiet.sink r.1.ends.0))
exact_run p files Spent r = exact_served files p Spent r.1.schema r.1.rows r.1.is_schema r.1.are_rows (λ quiet. absurd (quiet.bytes r.1.ends.0))
exact_run p files (Split rift) r = absurd r
exact_run p files (Ahead beyond) r = absurd r
exact_run p files (Stray stray) r = absurd r
exact_run p files (Shut shade) r = absurd r

exact_gen : {L : Type 0} (p : Passage L) (number subs events : ℕ) (status : Status) → GenEnds p number subs events status
    → (HasRisen p.before.link.sink.faults p.after.link.sink.faults → ⊥) → (status ≡ Done) ⊎ (status ≡ NoMemory)
exact_gen p number subs events Done e quiet = inl refl
exact_gen p number subs events WriteFault e quiet = absurd (quiet e.2.1)
exact_gen p number subs events NoMemory e quiet = inr refl
exact_gen p number subs events _ e quiet = absurd e

exact_cover : {L : Type 0} (p : Passage L) (files : RunFiles) (name : Text) (status : Status) → CoverEnds p files name status → RunIsExact files p status (AllIsDone p status)
exact_cover p files name Done r = exact_served files p Done r.1.schema r.1.rows r.1.is_schema r.1.are_rows (λ quiet. inl refl)
exact_cover p files name (SchemaBad l k) r = exact_schema_bad files p l k r.2
exact_cover p files name (LoadBad l k) r = exact_load_bad files p l k r.2
exact_cover p files name NoMemory r = exact_refused files p NoMemory (inr (refl, r.0)) (λ quiet. inr refl)
exact_cover p files name ReadFault r = exact_refused files p ReadFault (inl (refl, r.0)) (λ quiet. absurd (quiet.shelf r.0))
exact_cover p files name LongFile r = exact_long files p r.2
exact_cover p files name WriteFault r = exact_served files p WriteFault r.1.schema r.1.rows r.1.is_schema r.1.are_rows (λ quiet. absurd (quiet.sink r.1.written.1))
exact_cover p files name _ r = absurd r

-- a session's file is read as what it holds
abbrev itself : List ℕ → List ℕ
itself text = text

script_good : (file : ToldFile) (script : List ℕ) {L : Type 0} (p : Passage L) (status : Status) → FileReads itself file script → ScriptDecides file p status
script_good file script p status f = record {
  long = λ t. absurd (not_long itself file script f t);
  missing = λ none. absurd (not_gone itself file script f none);
}

scripts_good : (files : List ToldFile) (scripts : List (List ℕ)) {L : Type 0} (p : Passage L) (status : Status) → AreScripts files scripts → (IsFaultless p → EndsDrill status) → ScriptsDecide files p status
scripts_good [] [] p status are ends = ends
scripts_good [] (script ∷ scripts) p status are ends = absurd are
scripts_good (file ∷ files) [] p status are ends = absurd are
scripts_good (file ∷ files) (script ∷ scripts) p status are ends =
    (script_good file script p status are.0, λ text told_as. scripts_good files scripts p status are.1 ends)

scripts_refused : (files : List ToldFile) {L : Type 0} (p : Passage L) (status : Status) → FileIsRefused p status → (IsFaultless p → EndsDrill status) → ScriptsDecide files p status
scripts_refused [] p status refused ends = ends
scripts_refused (file ∷ files) p status refused ends =
    (record { long = λ t. inr refused; missing = λ none. refused }, λ text told_as. scripts_refused files p status refused ends)

scripts_long : (files : List ToldFile) {L : Type 0} (p : Passage L) → FirstIsLong files → ScriptsDecide files p LongFile
scripts_long [] p long = absurd long
scripts_long (file ∷ files) p (inl f) =
    (record { long = λ t. inl refl; missing = λ none. absurd (long_stays file f none) }, λ text told_as. absurd (not_short itself file text f told_as))
scripts_long (file ∷ files) p (inr f) =
    (script_good file f.0 p LongFile f.1, λ text told_as. scripts_long files p f.2)

-- where the files are good
exact_held : (files : ToldFiles) {L : Type 0} (p : Passage L) (status : Status) (s : Attributes) (rows : List Row) (scripts : List (List ℕ)) → FilesHold files s rows scripts → (IsFaultless p → EndsDrill status)
    → RunIsExact files.run p status (ScriptsDecide files.scripts p status)
exact_held files p status s rows scripts good ends =
    exact_served files.run p status s rows good.is_schema good.are_rows (scripts_good files.scripts scripts p status good.are_scripts ends)

exact_drill_long : (files : ToldFiles) {L : Type 0} (p : Passage L) → SomeIsLong files → RunIsExact files.run p LongFile (ScriptsDecide files.scripts p LongFile)
exact_drill_long files p (inl long) = exact_long files.run p long
exact_drill_long files p (inr (s, rows, is_schema, are_rows, long)) = exact_served files.run p LongFile s rows is_schema are_rows (scripts_long files.scripts p long)

module _ {L : Type 0} (p : Passage L) (Prints : Printing) (files : ToldFiles)
    (failed : (s : Attributes) (rows : List Row) (scripts : List (List ℕ)) (shuts : Bool) → Prints s rows scripts shuts (Err sink.Failed) → HasRisen p.before.link.sink.faults p.after.link.sink.faults) where
  abbrev Exactly : Status → Type 0
  Exactly status = RunIsExact files.run p status (ScriptsDecide files.scripts p status)

  exact_ran : (status : Status) → Ran p.OutKept Prints files status → (IsFaultless p → EndsDrill status) → Exactly status
  exact_ran status r ends = exact_held files p status r.schema r.rows r.scripts r.good ends

  exact_files : (status : Status) → FilesEnd p Prints files status → Exactly status
  exact_files Done r = exact_ran Done r.1 (λ quiet. tt)
  exact_files Words r = absurd r.1.runs
  exact_files (FeedBad l k) r = absurd r.1.runs
  exact_files (SchemaBad l k) r = exact_schema_bad files.run p l k r.2
  exact_files (LoadBad l k) r = exact_load_bad files.run p l k r.2
  exact_files NoMemory r = exact_refused files.run p NoMemory (inr (refl, r.0)) (scripts_refused files.scripts p NoMemory (inr (refl, r.0)) (λ quiet. tt))
  exact_files ReadFault r = exact_refused files.run p ReadFault (inl (refl, r.0)) (scripts_refused files.scripts p ReadFault (inl (refl, r.0)) (λ quiet. absurd (quiet.shelf r.0)))
  exact_files LongFile r = exact_drill_long files p r.2
  exact_files WriteFault r = exact_ran WriteFault r.1 (λ quiet. absurd (quiet.sink (failed r.1.schema r.1.rows r.1.scripts r.1.runs.0 r.1.runs.1)))
  exact_files Spent r = absurd r.1.runs
  exact_files (Split rift) r = exact_ran (Split rift) r.1 (λ quiet. tt)
  exact_files (Ahead beyond) r = absurd r.1.runs
  exact_files (Stray stray) r = exact_ran (Stray stray) r.1 (λ quiet. tt)
  exact_files (Shut shade) r = exact_ran (Shut shade) r.1 (λ quiet. tt)

module _ {L : Type 0} (p : Passage L) (port seats links : ℕ) (files : RunFiles) where
  abbrev Served : Status → Type 0
  Served status = RunIsExact files p status (IsFaultless p → LinksAreQuiet p → EndsServe status)

  exact_ran_serve : (status : Status) → RanServe p.told p.OutKept files port seats links p.before.door p.after.door p.before.link.sink p.after.link.sink status → Served status
  exact_ran_serve status r =
      exact_served files p status r.schema r.rows r.is_schema r.are_rows
      (λ quiet sound. serve_quiet p.told p.OutKept r.schema r.rows port seats links p.before.door p.after.door p.before.link.sink p.after.link.sink status r.runs sound)

  exact_serve : (status : Status) → ServeEnds p port seats links files status → Served status
  exact_serve (SchemaBad l k) r = exact_schema_bad files p l k r.2
  exact_serve (LoadBad l k) r = exact_load_bad files p l k r.2
  exact_serve (FeedBad l k) r = exact_ran_serve (FeedBad l k) r.1
  exact_serve NoMemory r = exact_refused files p NoMemory (inr (refl, r.0)) (λ quiet sound. tt)
  exact_serve ReadFault (inl r) = exact_refused files p ReadFault (inl (refl, r.0)) (λ quiet sound. absurd (quiet.shelf r.0))
  exact_serve ReadFault (inr r) = exact_ran_serve ReadFault r.1
  exact_serve LongFile r = exact_long files p r.2
  exact_serve Done r = exact_ran_serve Done r.1
  exact_serve Words r = exact_ran_serve Words r.1
  exact_serve WriteFault r = exact_ran_serve WriteFault r.1
  exact_serve Spent r = exact_ran_serve Spent r.1
  exact_serve (Split rift) r = exact_ran_serve (Split rift) r.1
  exact_serve (Ahead beyond) r = exact_ran_serve (Ahead beyond) r.1
  exact_serve (Stray stray) r = exact_ran_serve (Stray stray) r.1
  exact_serve (Shut shade) r = exact_ran_serve (Shut shade) r.1

module _ {L : Type 0} (p : Passage L) (port seats links : ℕ) (name : Text) where
  abbrev files : RunFiles
  files = run_files p.before.content name None

  abbrev IsMirrored : Status → Type 0
  IsMirrored status = RunIsExact files p status (IsFaultless p → LinksAreQuiet p → EndsMirror status)

  exact_ran_mirror : (status : Status) → MirrorRuns p port seats links files.schema status → IsMirrored status
  exact_ran_mirror status r = record {
    schema = schema_good files.schema r.0 p status r.1.1;
    load = λ s file good named. absurd cc;
    good = λ s good loads quiet sound.
        mirror_quiet p.told p.InputKept p.OutKept r.0 port seats links p.before.link p.after.link p.before.door p.after.door status r.2 quiet.source quiet.bytes sound;
  }

  exact_mirror : (status : Status) → MirrorEnds p port seats links files.schema status → IsMirrored status
  exact_mirror (SchemaBad l k) r = exact_schema_bad files p l k r.2
  exact_mirror (LoadBad l k) r = exact_ran_mirror (LoadBad l k) r.1
  exact_mirror (FeedBad l k) r = exact_ran_mirror (FeedBad l k) r.1
  exact_mirror NoMemory r = exact_refused files p NoMemory (inr (refl, r.0)) (λ quiet sound. tt)
  exact_mirror ReadFault (inl r) = exact_refused files p ReadFault (inl (refl, r.0)) (λ quiet sound. absurd (quiet.shelf r.0))
  exact_mirror ReadFault (inr r) = exact_ran_mirror ReadFault r.1
  exact_mirror LongFile r = exact_long files p (inl r.2)
  exact_mirror Done r = exact_ran_mirror Done r.1
  exact_mirror Words r = exact_ran_mirror Words r.1
  exact_mirror WriteFault r = exact_ran_mirror WriteFault r.1
  exact_mirror Spent r = exact_ran_mirror Spent r.1
  exact_mirror (Split rift) r = exact_ran_mirror (Split rift) r.1
  exact_mirror (Ahead beyond) r = exact_ran_mirror (Ahead beyond) r.1
  exact_mirror (Stray stray) r = exact_ran_mirror (Stray stray) r.1
  exact_mirror (Shut shade) r = exact_ran_mirror (Shut shade) r.1

pub exact_ends : {L : Type 0} (p : Passage L) (request : Option ProgramRequest) (status : Status) → Ends p request status → EndsExactly p request status
exact_ends p None status e = tt
exact_ends p (Some (run schema load)) status e = exact_run p (run_files p.before.content schema load) status e
exact_ends p (Some (gen number subs events)) status e = exact_gen p number subs events status e.2
exact_ends p (Some (cover schema file name)) status e = exact_cover p (run_files p.before.content schema (Some file)) name status e.1
exact_ends p (Some (drill schema load rounds files)) status e =
    exact_files p (prints_drill p) (drill_files p.before.content schema load files) (λ s rows scripts shuts printed. printed.written.1) status e.1
exact_ends p (Some (serve schema load port seats links)) status e = exact_serve p port seats links (run_files p.before.content schema load) status e.1
exact_ends p (Some (heat schema rounds files)) status e =
    exact_files p (prints_heat p) (drill_files p.before.content schema None files) (λ s rows scripts shuts printed. printed.written.1) status e.1
exact_ends p (Some (follow schema file)) status e = exact_follow p (follow_files p.before.content schema file) status e
exact_ends p (Some (mirror schema port seats links)) status e = exact_mirror p port seats links schema status e
