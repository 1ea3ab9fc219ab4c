-- What is told of a file is read as one thing.
use Rattle.std.proofs.Common.{◌≡◌, ℕ, ◌<◌, ◌≤◌, List, length, Some, None, Ok, Err, sym, subst, ◌∙◌, arith}
use Rattle.be_base.specs.declared.limits.TheConstants.{FILE_BYTES}
use Rattle.be_event.specs.declared.schema_texts.SchemaFault.TheVariants as schema
use Rattle.be_event.specs.SchemaTexts.{schema_of}
use Rattle.be_io.specs.Shelf.{HoldsFile}
use Rattle.be_model.specs.declared.changes.Row.{Row}
use Rattle.be_model.specs.Schemas.{Attributes}
use Rattle.be_load_files.specs.declared.faults.TableFault.TheVariants as table
use Rattle.be_load_files.specs.Tables.{table_of}
use Rattle.be_server.specs.declared.status.Status.{Status}
use Rattle.be_server.specs.Exact.{ToldAs, ToldLong, SchemaDecides, LoadDecides}
use Rattle.be_server.specs.Files.{ToldFile, FileReads, FileIsLong}
use Rattle.be_server.specs.Outside.{Passage}

-- what is told of a file
pub told : (file : ToldFile) (text : List ℕ) (P : List ℕ → Type 0) → file ≡ Some (Some text) → HoldsFile file P → P text
told file text P e h = subst (λ (o : ToldFile). HoldsFile o P) e h

pub gone : (file : ToldFile) (P : List ℕ → Type 0) → file ≡ Some None → HoldsFile file P → ⊥
gone file P e h = subst (λ (o : ToldFile). HoldsFile o P) e h

pub too_long : (text : List ℕ) → length text ≤ FILE_BYTES → FILE_BYTES < length text → ⊥
too_long text a b = omega arith

-- a file is read as one thing
pub one_reading : {A : Type 0} (reader : List ℕ → A) (file : ToldFile) (a b : A) → FileReads reader file a → ToldAs reader file b → a ≡ b
one_reading reader file a b f t =
    let read = told file t.0 (λ x. (length x ≤ FILE_BYTES) × (reader x ≡ a)) t.1 f in
    sym read.1 ∙ t.3

pub not_long : {A : Type 0} (reader : List ℕ → A) (file : ToldFile) (a : A) → FileReads reader file a → ToldLong file → ⊥
not_long reader file a f t =
    let read = told file t.0 (λ x. (length x ≤ FILE_BYTES) × (reader x ≡ a)) t.1 f in
    too_long t.0 read.0 t.2

pub not_gone : {A : Type 0} (reader : List ℕ → A) (file : ToldFile) (a : A) → FileReads reader file a → file ≡ Some None → ⊥
not_gone reader file a f none = gone file (λ x. (length x ≤ FILE_BYTES) × (reader x ≡ a)) none f

pub not_short : {A : Type 0} (reader : List ℕ → A) (file : ToldFile) (a : A) → FileIsLong file → ToldAs reader file a → ⊥
not_short reader file a f t = too_long t.0 t.2 (told file t.0 (λ x. FILE_BYTES < length x) t.1 f)

pub long_stays : (file : ToldFile) → FileIsLong file → file ≡ Some None → ⊥
long_stays file f none = gone file (λ x. FILE_BYTES < length x) none f

-- one schema
pub same_schema : (file : ToldFile) (s t : Attributes) → FileReads schema_of file (Ok s) → ToldAs schema_of file (Ok t) → s ≡ t
same_schema file s t f told_as = let e : Ok s ≡ Ok t = one_reading schema_of file (Ok s) (Ok t) f told_as in cc

pub schema_good : (file : ToldFile) (s : Attributes) {L : Type 0} (p : Passage L) (status : Status) → FileReads schema_of file (Ok s) → SchemaDecides file p status
schema_good file s p status f = record {
  bad = λ line kind t. let clash : Ok s ≡ Err (schema.Line line kind) = one_reading schema_of file (Ok s) (Err (schema.Line line kind)) f t in absurd cc;
  long = λ t. absurd (not_long schema_of file (Ok s) f t);
  missing = λ none. absurd (not_gone schema_of file (Ok s) f none);
}

pub load_good : (s : Attributes) (file : ToldFile) (rows : List Row) {L : Type 0} (p : Passage L) (status : Status) → FileReads (table_of s) file (Ok rows) → LoadDecides s file p status
load_good s file rows p status f = record {
  bad = λ line kind t. let clash : Ok rows ≡ Err (table.Line line kind) = one_reading (table_of s) file (Ok rows) (Err (table.Line line kind)) f t in absurd cc;
  long = λ t. absurd (not_long (table_of s) file (Ok rows) f t);
  missing = λ none. absurd (not_gone (table_of s) file (Ok rows) f none);
}
