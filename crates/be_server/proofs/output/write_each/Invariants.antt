-- The pieces so far were written.
use Rattle.std.proofs.Common.{take, Ok}
use Rattle.std.specs.List.{flat_map}
use Rattle.be_base.specs.Readers.{now_of}
use Rattle.be_io.specs.Outside.{sink_state}
use Rattle.be_io.specs.Sink.{Wrote}
use Rattle.be_server.proofs.output.write_each.Given as goal

abbrev pub invariant-loop-piece : goal.invariant-loop-piece
invariant-loop-piece g l = Wrote (sink_state g.K.Sink l.initial.out) (sink_state g.K.Sink l.out) (flat_map now_of (take l.piece-index l.pieces)) (Ok tt)
