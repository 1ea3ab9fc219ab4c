use Rattle.std.proofs.Common.{◌≡◌, ◌+◌, ◌-◌, ◌<◌, ◌≤◌, drop, length, vec_len}
use Rattle.std.specs.Vec.{vec_capacity}
use Rattle.be_io.specs.Gathered.{with_kept}
use Rattle.be_io.proofs.gathered.Gathered.hand_on.Given as goal

abbrev pub invariant-loop-self : goal.invariant-loop-self
invariant-loop-self g l = record {
  within : l.self-inside.handed ≤ vec_len l.self-inside.bytes;
  room : l.self-inside.room ≡ l.fn.self.room;
  some : 0 < l.self-inside.room;
  few : vec_len l.self-inside.bytes ≤ l.self-inside.room;
  there : l.self-inside.room ≤ vec_capacity l.self-inside.bytes;
  held : with_kept (g.K.Sink.held l.self-inside.sink) (drop l.self-inside.handed l.self-inside.bytes.items) ≡ with_kept (g.K.Sink.held l.fn.self.sink) l.fn.self.kept;
  back : length (drop l.self-inside.handed l.self-inside.bytes.items) + g.K.Sink.kept_back l.self-inside.sink ≤ length l.fn.self.kept + g.K.Sink.kept_back l.fn.self.sink;
  faults : g.K.Sink.write_faults l.self-inside.sink ≡ g.K.Sink.write_faults l.fn.self.sink;
  refusals : g.K.Sink.refusals l.self-inside.sink ≡ g.K.Sink.refusals l.fn.self.sink;
  beside : g.K.Sink.kept_by_write l.self-inside.sink ≡ g.K.Sink.kept_by_write l.fn.self.sink;
}

abbrev pub decreases-loop-self : goal.decreases-loop-self
decreases-loop-self g l = vec_len l.self-inside.bytes - l.self-inside.handed
