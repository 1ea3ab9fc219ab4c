use Rattle.std.proofs.Common.{length, ◌-◌, ◌≡◌, ◌≤◌, take}
use Rattle.be_io.specs.Told.{HoldsMore}
use Rattle.be_io.proofs.writing.write_all.Given as goal

abbrev pub invariant-loop-from : goal.invariant-loop-from
invariant-loop-from g l = record {
  within : l.from ≤ length l.bytes;
  held : HoldsMore (g.K.Sink.held l.fn.sink) (g.K.Sink.held l.sink) (take l.from l.bytes);
  faults : g.K.Sink.write_faults l.sink ≡ g.K.Sink.write_faults l.fn.sink;
  refusals : g.K.Sink.refusals l.sink ≡ g.K.Sink.refusals l.fn.sink;
  beside : g.K.Sink.kept_by_write l.sink ≡ g.K.Sink.kept_by_write l.fn.sink;
}

abbrev pub decreases-loop-from : goal.decreases-loop-from
decreases-loop-from g l = length l.bytes - l.from
