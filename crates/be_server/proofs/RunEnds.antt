-- How a run ends, once its files were read and its session was served.
use Rattle.std.proofs.Common.{◌≡◌, inl, inr, true, List, Some, is_some, Err, refl, subst}
use Rattle.be_io.specs.Outside.{LinkState}
use Rattle.be_model.specs.declared.changes.Row.{Row}
use Rattle.be_model.specs.Schemas.{Attributes}
use Rattle.be_change.specs.History.{Entry}
use Rattle.be_change.specs.Opening.{opening_of}
use Rattle.be_protocol.specs.declared.ends.SessionEnd.{SessionEnd}
use Rattle.be_protocol.specs.declared.ends.SessionEnd.TheVariants as ends
use Rattle.be_server.specs.declared.status.Status.{Status}
use Rattle.be_server.specs.declared.status.Status.TheVariants.{Done, SchemaBad, LoadBad, NoMemory, ReadFault, LongFile, WriteFault, Spent}
use Rattle.be_server.specs.Files.{RunFiles, IsSchemaOf, AreRowsOf, LoadsRun}
use Rattle.be_server.specs.Outside.{Passage}
use Rattle.be_server.specs.Run.{SessionRuns, RunEnds, RunServes}
use Rattle.be_server.specs.Status.{status_of}

-- it has a status
pub has_status : (U : Type 0) (s : Attributes) (opening : List Entry) (before after : LinkState) (end : SessionEnd) → SessionRuns U s opening before after end → is_some (status_of end) ≡ true
has_status U s opening before after ends.Eof r = refl
has_status U s opening before after ends.Quit r = refl
has_status U s opening before after ends.ReadFault r = refl
has_status U s opening before after ends.WriteFault r = refl
has_status U s opening before after ends.Spent r = refl
has_status U s opening before after ends.NoMemory r = refl
has_status U s opening before after (ends.Split seen written) r = absurd r

module _ {L : Type 0} (p : Passage L) (files : RunFiles) where
  -- the session was served
  pub run_ended : (s : Attributes) (rows : List Row) (end : SessionEnd) (status : Status) → p.after.shelf ≡ p.before.shelf → IsSchemaOf files.schema s → AreRowsOf s files.load rows
      → SessionRuns (p.InputKept × p.OutKept) s (opening_of rows) p.before.link p.after.link end → status_of end ≡ Some status → RunEnds p files status
  run_ended s rows end status quiet is_schema are r is = by_end end r is
    where
      served_so : (e : SessionEnd) → SessionRuns (p.InputKept × p.OutKept) s (opening_of rows) p.before.link p.after.link e → RunServes p files e
      served_so e k = record { schema = s; is_schema = is_schema; rows = rows; are_rows = are; ends = k }

      so : (t : Status) → Some t ≡ Some status → RunEnds p files t → RunEnds p files status
      so t same e = let one : t ≡ status = cc in subst (RunEnds p files) one e

      by_end : (e : SessionEnd) → SessionRuns (p.InputKept × p.OutKept) s (opening_of rows) p.before.link p.after.link e → status_of e ≡ Some status → RunEnds p files status
      by_end ends.Eof k is = so Done is (quiet, inl (served_so ends.Eof k))
      by_end ends.Quit k is = so Done is (quiet, inr (served_so ends.Quit k))
      by_end ends.ReadFault k is = so ReadFault is (inr (quiet, served_so ends.ReadFault k))
      by_end ends.WriteFault k is = so WriteFault is (quiet, served_so ends.WriteFault k)
      by_end ends.Spent k is = so Spent is (quiet, served_so ends.Spent k)
      by_end ends.NoMemory k is = so NoMemory is (quiet, inr (served_so ends.NoMemory k))
      by_end (ends.Split seen written) k is = absurd k

  -- the files were refused
  pub run_refused : (status : Status) → p.InputKept × p.OutKept → LoadsRun files p.before.shelf p.after.shelf (Err status) → RunEnds p files status
  run_refused ReadFault u l = inl (l, u.0, u.1)
  run_refused LongFile u l = (l.0, u, l.1)
  run_refused NoMemory u l = (l, inl u)
  run_refused (SchemaBad line kind) u l = (l.0, u, l.1)
  run_refused (LoadBad line kind) u l = (l.0, u, l.1)
  run_refused _ u l = absurd l
