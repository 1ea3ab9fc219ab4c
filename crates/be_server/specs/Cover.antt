-- The promise of `cover`: what it prints, how it may end, and what was then written.
use Rattle.std.specs.Prelude.{◌≡◌, ◌++◌, ◌⊎◌, Bool, List, [], ◌∷◌, find, Option, Some, None, Result, Ok, Err, codes, if◌then◌else◌}
use Rattle.std.specs.List.{flat_map}
use Rattle.be_base.specs.Text.{Text, same_text}
use Rattle.be_cover.specs.Covering.{apart_event}
use Rattle.be_event.specs.Writing.{event_text}
use Rattle.be_io.specs.Counts.{HasRisen}
use Rattle.be_io.specs.Sink.{SinkState}
use Rattle.be_io.specs.declared.faults.SinkFault.{SinkFault}
use Rattle.be_io.specs.declared.faults.SinkFault.TheVariants as sink
use Rattle.be_model.specs.declared.changes.Row.{Row}
use Rattle.be_model.specs.Matching.{Assignments}
use Rattle.be_model.specs.Schemas.{Attributes}
use Rattle.be_server.specs.declared.status.Status.{Status}
use Rattle.be_server.specs.declared.status.Status.TheVariants.{Done, SchemaBad, LoadBad, NoMemory, ReadFault, LongFile, WriteFault}
use Rattle.be_server.specs.Files.{RunFiles, IsSchemaOf, AreRowsOf, SchemaIsBad, LoadIsBad, OneIsLong}
use Rattle.be_server.specs.Outside.{Passage}
use Rattle.be_server.specs.Output.{WroteOut}

-- the line of a row: it is covered, or this event tells the asked one from it
abbrev pub cover_line : Attributes → Text → Option Assignments → Text
cover_line s name None = codes "COVER " ++ (name ++ 10 ∷ [])
cover_line s name (Some e) = codes "NOT " ++ (name ++ (32 ∷ (event_text s e ++ 10 ∷ [])))

abbrev pub is_named : Text → Row → Bool
is_named name row = same_text row.name name

-- the asked row has no line of its own
abbrev pub line_for : Attributes → Row → Row → Text
line_for s asked row =
    if is_named asked.name row then [] else cover_line s row.name (apart_event s asked.conj row.conj)

-- a line for each other row, in their order. There is no asked row where none has the name
abbrev pub lines_for : Attributes → List Row → Option Row → Text
lines_for s rows None = codes "UNKNOWN\n"
lines_for s rows (Some asked) = flat_map (line_for s asked) rows

abbrev pub cover_text : Attributes → List Row → Text → Text
cover_text s rows name = lines_for s rows (find (is_named name) rows)

-- the files are a schema and these rows, whose lines were written so: whole, or a beginning of them, or whole and not all handed on
pub record WroteCover (files : RunFiles) (name : Text) (before after : SinkState) (result : Result (Unit {0}) SinkFault) : Type 0 where
  pub schema : Attributes
  pub is_schema : IsSchemaOf files.schema schema
  pub rows : List Row
  pub are_rows : AreRowsOf schema files.load rows
  pub written : WroteOut before after (cover_text schema rows name) result

-- how lines may be written. Kept says that the output is as it was
abbrev pub WritesLines : Type 0 → Text → SinkState → SinkState → Status → Type 0
WritesLines Kept text before after Done = WroteOut before after text (Ok tt)
WritesLines Kept text before after WriteFault = WroteOut before after text (Err sink.Failed)
-- before anything was written, or in the output
WritesLines Kept text before after NoMemory = Kept ⊎ WroteOut before after text (Err sink.NoMemory)
WritesLines Kept text before after _ = ⊥

module _ {L : Type 0} (p : Passage L) (files : RunFiles) (name : Text) where
  abbrev pub CoverWrites : Result (Unit {0}) SinkFault → Type 0
  CoverWrites result = WroteCover files name p.before.link.sink p.after.link.sink result

  -- how it may end
  abbrev pub CoverEnds : Status → Type 0
  CoverEnds Done = (p.after.shelf ≡ p.before.shelf) × CoverWrites (Ok tt)
  CoverEnds (SchemaBad line kind) = (p.after.shelf ≡ p.before.shelf) × p.OutKept × SchemaIsBad files line kind
  CoverEnds (LoadBad line kind) = (p.after.shelf ≡ p.before.shelf) × p.OutKept × LoadIsBad files line kind
  CoverEnds LongFile = (p.after.shelf ≡ p.before.shelf) × p.OutKept × OneIsLong files
  CoverEnds ReadFault = HasRisen p.before.shelf p.after.shelf × p.OutKept
  CoverEnds WriteFault = (p.after.shelf ≡ p.before.shelf) × CoverWrites (Err sink.Failed)
  -- before anything was written, or in the output
  CoverEnds NoMemory = (p.after.shelf ≡ p.before.shelf) × (p.OutKept ⊎ CoverWrites (Err sink.NoMemory))
  CoverEnds _ = ⊥
