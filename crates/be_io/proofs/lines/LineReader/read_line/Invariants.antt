use Rattle.std.proofs.Common.{◌≡◌, ◌-◌, ◌≤◌, true}
use Rattle.be_base.specs.declared.limits.TheConstants.{SOURCE_BYTES}
use Rattle.be_io.specs.Counts.{RisesBy}
use Rattle.be_io.specs.Lines.{has_lf}
use Rattle.be_io.specs.Reading.{IsReading}
use Rattle.be_io.proofs.lines.LineReader.read_line.Given as goal

abbrev pub invariant-loop-len : goal.invariant-loop-len
invariant-loop-len g l = record {
  reading : IsReading l.fn.self l.self (g.S.Source.left l.fn.src) (g.S.Source.left l.src) l.skipped l.scanned;
  bound : l.self.taken ≤ SOURCE_BYTES;
  faults : g.S.Source.read_faults l.src ≡ g.S.Source.read_faults l.fn.src;
  taken : RisesBy (l.self.taken - l.fn.self.taken) (g.S.Source.taken l.fn.src) (g.S.Source.taken l.src);
  beside : g.S.Source.kept_by_read l.src ≡ g.S.Source.kept_by_read l.fn.src;
  ahead : has_lf l.fn.self.unread ≡ true → l.src ≡ l.fn.src;
}

abbrev pub decreases-loop-len : goal.decreases-loop-len
decreases-loop-len g l = SOURCE_BYTES - l.self.taken
