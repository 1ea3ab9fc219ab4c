-- The values are written one after another, between the braces.
use Rattle.std.proofs.Common.{◌≡◌, ℕ, ℤ, List, [], ◌∷◌, ◌++◌, Ok, Err, append_assoc, ap, sym, ◌∙◌, subst}
use Rattle.std.specs.List.{flat_map}
use Rattle.std.proofs.lemmas.List.{take_all}
use Rattle.std.proofs.lemmas.Result.{err_from_is_err_and}
use Rattle.be_base.specs.Sets.{set_text}
use Rattle.be_io.specs.Outside.{sink_state}
use Rattle.be_io.specs.Sink.{SinkState, Wrote}
use Rattle.be_io.specs.declared.faults.SinkFault.{SinkFault}
use Rattle.be_io.proofs.WroteLemmas.{Wrote-append, Wrote-cut, Wrote-next, Wrote-stopped}
use Rattle.be_model.specs.Texts.{value_text}
use Rattle.be_event.proofs.sending.send_set.Goals as goal

pub returns-in_err-send_value-clause-wrote : goal.returns-in_err-send_value-clause-wrote
returns-in_err-send_value-clause-wrote g c =
    let d = c.args.domain.now in
    let value = value_text d in
    let first = c.in-Some.first.now in
    let behind : List ℕ = flat_map (λ (v : ℤ). 44 ∷ value v) c.in-Some.rest.now in
    let p = err_from_is_err_and c.from_residual.result c.from_residual.ensures.1 in
    let text : (123 ∷ value first) ++ (behind ++ 125 ∷ []) ≡ set_text value c.args.values.now =
    ap (λ t. 123 ∷ t) (sym (append_assoc (value first) behind (125 ∷ []))) ∙ ap (set_text value) (sym c.in-Some.ensures.cases.0) in
    rw (p.1, p.2) (subst (λ t. Wrote (sink_state g.K.Sink c.args.sink.now) (sink_state g.K.Sink c.send_value.new.sink) t (Err c.in_err-send_value.field-0.0)) text
    (Wrote-cut (sink_state g.K.Sink c.args.sink.now) (sink_state g.K.Sink c.send_value.new.sink) (123 ∷ value first) (behind ++ 125 ∷ []) c.in_err-send_value.field-0.0 c.in_err-send_value.ensures.wrote))

pub returns-in_err-send_value-2-clause-wrote : goal.returns-in_err-send_value-2-clause-wrote
returns-in_err-send_value-2-clause-wrote g c =
    let d = c.args.domain.now in
    let value = value_text d in
    let first = c.in-Some.first.now in
    let each = λ (v : ℤ). 44 ∷ value v in
    let before : SinkState = sink_state g.K.Sink c.args.sink.now in
    let middle : SinkState = sink_state g.K.Sink c.send_value.new.sink in
    let after : SinkState = sink_state g.K.Sink c.send_value-in-loop-value.new.sink in
    let fault : SinkFault = c.in_err-send_value-2.field-0.0 in
    let p = err_from_is_err_and c.from_residual-in_err-send_value-2.result c.from_residual-in_err-send_value-2.ensures.1 in
    let stopped : Wrote middle after (flat_map each c.in-Some.rest.now) (Err fault) =
    Wrote-stopped each c.in-Some.rest.now c.loop-value.value-index _ [] middle (sink_state g.K.Sink c.loop-value.sink) after fault c.loop-value-test.true c.loop-value.invariant.wrote c.in_err-send_value-2.ensures.wrote in
    rw (p.1, p.2) (subst (λ t. Wrote before after t (Err fault)) (ap (set_text value) (sym c.in-Some.ensures.cases.0))
    (Wrote-cut before after ((123 ∷ value first) ++ flat_map each c.in-Some.rest.now) (125 ∷ []) fault
    (Wrote-append before middle after (123 ∷ value first) (flat_map each c.in-Some.rest.now) (Err fault) c.in_ok-send_value.ensures.wrote stopped)))

pub loop-value-preserved : goal.loop-value-preserved
loop-value-preserved g c = record {
  wrote = Wrote-next (λ (v : ℤ). 44 ∷ value_text c.args.domain.now v) c.in-Some.rest.now c.loop-value.value-index _ []
      (sink_state g.K.Sink c.send_value.new.sink) (sink_state g.K.Sink c.loop-value.sink) (sink_state g.K.Sink c.send_value-in-loop-value.new.sink)
      c.loop-value-test.true c.loop-value.invariant.wrote c.in_ok-send_value-2.ensures.wrote;
  beside = c.in_ok-send_value-2.ensures.beside ∙ c.loop-value.invariant.beside;
}

pub returns-clause-wrote : goal.returns-clause-wrote
returns-clause-wrote g c =
    let value = value_text c.args.domain.now in
    let first = c.in-Some.first.now in
    let rest = c.in-Some.rest.now in
    let each = λ (v : ℤ). 44 ∷ value v in
    let before : SinkState = sink_state g.K.Sink c.args.sink.now in
    let middle : SinkState = sink_state g.K.Sink c.send_value.new.sink in
    let last : SinkState = sink_state g.K.Sink c.loop-value.sink in
    let all : Wrote middle last (flat_map each rest) (Ok tt) =
    subst (λ vs. Wrote middle last (flat_map each vs) (Ok tt)) (take_all c.loop-value.value-index rest c.loop-value-test.false) c.loop-value.invariant.wrote in
    subst (λ t. Wrote before (sink_state g.K.Sink c.write_all-2.new.sink) t c.write_all-2.result) (ap (set_text value) (sym c.in-Some.ensures.cases.0))
    (Wrote-append before last (sink_state g.K.Sink c.write_all-2.new.sink) ((123 ∷ value first) ++ flat_map each rest) (125 ∷ []) c.write_all-2.result
    (Wrote-append before middle last (123 ∷ value first) (flat_map each rest) (Ok tt) c.in_ok-send_value.ensures.wrote all) c.write_all-2.ensures.wrote)
