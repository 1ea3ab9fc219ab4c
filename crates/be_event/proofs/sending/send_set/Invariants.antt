-- The values so far were written, behind the first.
use Rattle.std.proofs.Common.{◌≡◌, ℤ, ◌∷◌, take, Ok}
use Rattle.std.specs.List.{flat_map}
use Rattle.be_io.specs.Outside.{sink_state}
use Rattle.be_io.specs.Sink.{Wrote}
use Rattle.be_model.specs.Texts.{value_text}
use Rattle.be_event.proofs.sending.send_set.Given as goal

abbrev pub invariant-loop-value : goal.invariant-loop-value
invariant-loop-value g l = record {
  wrote : Wrote (sink_state g.K.Sink l.initial.sink) (sink_state g.K.Sink l.sink)
      (flat_map (λ (v : ℤ). 44 ∷ value_text l.domain v) (take l.value-index l.rest)) (Ok tt);
  beside : g.K.Sink.kept_by_write l.sink ≡ g.K.Sink.kept_by_write l.initial.sink;
}
