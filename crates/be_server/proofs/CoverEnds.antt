-- How `cover` ends, once its files were read and its lines were written.
use Rattle.std.proofs.Common.{◌≡◌, inl, inr, List, Err}
use Rattle.be_base.specs.Text.{Text}
use Rattle.be_model.specs.declared.changes.Row.{Row}
use Rattle.be_model.specs.Schemas.{Attributes}
use Rattle.be_server.specs.declared.status.Status.{Status}
use Rattle.be_server.specs.declared.status.Status.TheVariants.{Done, SchemaBad, LoadBad, NoMemory, ReadFault, LongFile, WriteFault}
use Rattle.be_server.specs.Files.{RunFiles, IsSchemaOf, AreRowsOf, LoadsRun}
use Rattle.be_server.specs.Cover.{cover_text, WritesLines, CoverEnds}
use Rattle.be_server.specs.Outside.{Passage}

module _ {L : Type 0} (p : Passage L) (files : RunFiles) (name : Text) where
  -- the lines were written, or not
  pub cover_written : (s : Attributes) (rows : List Row) (status : Status) → p.after.shelf ≡ p.before.shelf → IsSchemaOf files.schema s → AreRowsOf s files.load rows
      → WritesLines p.OutKept (cover_text s rows name) p.before.link.sink p.after.link.sink status → CoverEnds p files name status
  cover_written s rows Done quiet is are w = (quiet, record { schema = s; is_schema = is; rows = rows; are_rows = are; written = w })
  cover_written s rows WriteFault quiet is are w = (quiet, record { schema = s; is_schema = is; rows = rows; are_rows = are; written = w })
  cover_written s rows NoMemory quiet is are (inl k) = (quiet, inl k)
  cover_written s rows NoMemory quiet is are (inr w) = (quiet, inr (record { schema = s; is_schema = is; rows = rows; are_rows = are; written = w }))
  cover_written s rows _ quiet is are w = absurd w

  -- the files were refused
  pub cover_refused : (status : Status) → p.OutKept → LoadsRun files p.before.shelf p.after.shelf (Err status) → CoverEnds p files name status
  cover_refused ReadFault k l = (l, k)
  cover_refused LongFile k l = (l.0, k, l.1)
  cover_refused NoMemory k l = (l, inl k)
  cover_refused (SchemaBad line kind) k l = (l.0, k, l.1)
  cover_refused (LoadBad line kind) k l = (l.0, k, l.1)
  cover_refused _ k l = absurd l
