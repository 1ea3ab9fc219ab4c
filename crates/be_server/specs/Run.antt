-- The promise of `run`: how it may end. Its session is a conversation; for each way in which one may end be_protocol/Conversation
-- says what was read, what was written and which call failed. What the exchanges of a run fulfil beside that is said here.
use Rattle.std.specs.Prelude.{◌≡◌, ◌++◌, ◌⊎◌, Bool, true, false, List, [], ◌∷◌}
use Rattle.be_io.specs.Counts.{HasRisen}
use Rattle.be_io.specs.Lines.{TextLine}
use Rattle.be_io.specs.Outside.{LinkState}
use Rattle.be_model.specs.declared.changes.Row.{Row}
use Rattle.be_model.specs.Schemas.{Attributes}
use Rattle.be_change.specs.History.{Entry}
use Rattle.be_change.specs.Opening.{opening_of}
use Rattle.be_protocol.specs.Conversation.{Terms, ConversationEnds}
use Rattle.be_protocol.specs.Ends.{end_after, has_not_ended}
use Rattle.be_protocol.specs.Readings.{reading}
use Rattle.be_protocol.specs.Runs.{AreRun, HasNoQuit, EndsWithQuit}
use Rattle.be_protocol.specs.declared.ends.SessionEnd.{SessionEnd}
use Rattle.be_protocol.specs.declared.ends.SessionEnd.TheVariants as ends
use Rattle.be_server.specs.declared.status.Status.{Status}
use Rattle.be_server.specs.declared.status.Status.TheVariants.{Done, SchemaBad, LoadBad, NoMemory, ReadFault, LongFile, WriteFault, Spent}
use Rattle.be_server.specs.Files.{RunFiles, IsSchemaOf, AreRowsOf, SchemaIsBad, LoadIsBad, OneIsLong}
use Rattle.be_server.specs.Outside.{Passage}

-- no line is a QUIT, or the last one alone is
abbrev pub QuitsAtEnd : (on : Bool) → Attributes → List TextLine → Type 0
QuitsAtEnd true s lines = HasNoQuit s lines
QuitsAtEnd false s lines = EndsWithQuit s lines

-- what the exchanges of a run fulfil, whose list begins with this opening: they are legal over the well formed list that the
-- opening, the lines and the replies make, and no reply ended the session but that to a QUIT, which is the last line then
abbrev pub run_terms : Attributes → List Entry → Terms
run_terms s opening = record {
  schema = s;
  asks = reading s;
  Whole = λ end lines ps. AreRun s opening lines ps × QuitsAtEnd (has_not_ended end) s lines;
  InPart = λ lines ps last out. AreRun s opening lines (ps ++ last ∷ []) × QuitsAtEnd (has_not_ended (end_after last.0 last.1)) s lines;
}

-- how the session of a run may end. Untouched says that input and output are as they were. No reply tells two numbers that differ
abbrev pub SessionRuns : Type 0 → Attributes → List Entry → LinkState → LinkState → SessionEnd → Type 0
SessionRuns Untouched s opening before after (ends.Split seen written) = ⊥
SessionRuns Untouched s opening before after end = ConversationEnds Untouched (run_terms s opening) before after end

-- a session was served with the schema of these files and over an opening of their rows, and ended so
pub record ServedWith (Untouched : Type 0) (files : RunFiles) (before after : LinkState) (end : SessionEnd) : Type 0 where
  pub schema : Attributes
  pub is_schema : IsSchemaOf files.schema schema
  pub rows : List Row
  pub are_rows : AreRowsOf schema files.load rows
  pub ends : SessionRuns Untouched schema (opening_of rows) before after end

-- how a run with these files may end
module _ {L : Type 0} (p : Passage L) (files : RunFiles) where
  abbrev pub RunServes : SessionEnd → Type 0
  RunServes end = ServedWith (p.InputKept × p.OutKept) files p.before.link p.after.link end

  abbrev pub RunEnds : Status → Type 0
  RunEnds Done = (p.after.shelf ≡ p.before.shelf) × (RunServes ends.Eof ⊎ RunServes ends.Quit)
  RunEnds (SchemaBad line kind) = (p.after.shelf ≡ p.before.shelf) × (p.InputKept × p.OutKept) × SchemaIsBad files line kind
  RunEnds (LoadBad line kind) = (p.after.shelf ≡ p.before.shelf) × (p.InputKept × p.OutKept) × LoadIsBad files line kind
  RunEnds LongFile = (p.after.shelf ≡ p.before.shelf) × (p.InputKept × p.OutKept) × OneIsLong files
  RunEnds ReadFault = (HasRisen p.before.shelf p.after.shelf × p.InputKept × p.OutKept) ⊎ ((p.after.shelf ≡ p.before.shelf) × RunServes ends.ReadFault)
  RunEnds WriteFault = (p.after.shelf ≡ p.before.shelf) × RunServes ends.WriteFault
  RunEnds Spent = (p.after.shelf ≡ p.before.shelf) × RunServes ends.Spent
  RunEnds NoMemory = (p.after.shelf ≡ p.before.shelf) × ((p.InputKept × p.OutKept) ⊎ RunServes ends.NoMemory)
  RunEnds _ = ⊥
