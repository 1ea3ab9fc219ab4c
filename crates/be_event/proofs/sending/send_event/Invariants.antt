-- The items so far were written, behind the first.
use Rattle.std.proofs.Common.{◌≡◌, ◌++◌, take, codes, Ok}
use Rattle.std.specs.List.{flat_map}
use Rattle.be_io.specs.Outside.{sink_state}
use Rattle.be_io.specs.Sink.{Wrote}
use Rattle.be_event.specs.Writing.{item_text}
use Rattle.be_event.proofs.sending.send_event.Given as goal

abbrev pub invariant-loop-item : goal.invariant-loop-item
invariant-loop-item g l = record {
  wrote : Wrote (sink_state g.K.Sink l.initial.sink) (sink_state g.K.Sink l.sink)
      (flat_map (λ item. codes " " ++ item_text l.schema item) (take l.item-index l.rest)) (Ok tt);
  beside : g.K.Sink.kept_by_write l.sink ≡ g.K.Sink.kept_by_write l.initial.sink;
}
