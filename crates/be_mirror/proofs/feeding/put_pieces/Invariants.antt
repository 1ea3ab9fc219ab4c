-- So much was taken so far, and nothing was at fault.
use Rattle.std.proofs.Common.{◌≡◌, ◌-◌, ◌≤◌, None, length}
use Rattle.be_base.specs.Counts.{RisesBy}
use Rattle.be_base.specs.Lists.{BeginsWith}
use Rattle.be_base.specs.declared.limits.TheConstants.{READ_BYTES, SOURCE_BYTES}
use Rattle.be_io.specs.Outside.{source_state}
use Rattle.be_mirror.specs.Feeding.{IsFed}
use Rattle.be_mirror.proofs.feeding.put_pieces.Given as goal

abbrev pub invariant-loop-left : goal.invariant-loop-left
invariant-loop-left g l = record {
  fed : IsFed g.O.Outlet.schema (source_state g.S.Source l.fn.source) (source_state g.S.Source l.source) l.ledger;
  sound : l.ledger.fed.fault ≡ None;
  bound : l.left ≤ SOURCE_BYTES;
  faults : g.S.Source.read_faults l.source ≡ g.S.Source.read_faults l.fn.source;
  taken : RisesBy (SOURCE_BYTES - l.left) (g.S.Source.taken l.fn.source) (g.S.Source.taken l.source);
  beside : g.S.Source.kept_by_read l.source ≡ g.S.Source.kept_by_read l.fn.source;
  stood : l.stood ≡ length (g.O.Outlet.list l.outlet);
  begins : BeginsWith l.ledger.fed.list (g.O.Outlet.list l.outlet);
  fits : g.O.Outlet.is_sound l.outlet;
  later : (first : g.row.O.Denot) → g.O.Outlet.is_later first l.fn.outlet → g.O.Outlet.is_later first l.outlet;
  room : length l.buffer.items ≡ READ_BYTES;
}

abbrev pub decreases-loop-left : goal.decreases-loop-left
decreases-loop-left g l = l.left
