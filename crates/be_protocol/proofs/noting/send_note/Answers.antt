-- The head, the event and the LF were written, or one of them was refused.
use Rattle.std.proofs.Common.{◌≡◌, Ok, Err, ap, ◌∙◌, subst}
use Rattle.std.specs.Arc.{arc_value}
use Rattle.std.proofs.lemmas.Result.{err_from_is_err_and}
use Rattle.be_base.specs.Text.{Text}
use Rattle.be_event.specs.Writing.{event_text}
use Rattle.be_io.specs.Outside.{sink_state}
use Rattle.be_io.specs.Sink.{SinkState, Wrote}
use Rattle.be_io.specs.declared.faults.SinkFault.{SinkFault}
use Rattle.be_model.specs.declared.changes.Row.{Row}
use Rattle.be_model.specs.declared.letters.EventText.{EventText}
use Rattle.be_protocol.proofs.Notes.{head, head_refused, event_refused, note_wrote}
use Rattle.be_protocol.proofs.noting.send_note.Goals as goal

pub returns-in_err-write_all-clause-wrote : goal.returns-in_err-write_all-clause-wrote
returns-in_err-write_all-clause-wrote g c =
    let s = c.args.schema.now in
    let letter = c.args.letter.now in
    let row = arc_value letter.row in
    let bytes : c.as_bytes.result.now ≡ head letter.n row.name = c.as_bytes.ensures.value ∙ c.as_str.ensures.value ∙ c.note_head.ensures ∙ ap (λ (r : Row). head letter.n r.name) c.deref.ensures in
    let before : SinkState = sink_state g.K.Sink c.args.out.now in
    let after : SinkState = sink_state g.K.Sink c.write_all.new.sink in
    let fault : SinkFault = c.in_err-write_all.field-0.0 in
    let p = err_from_is_err_and c.from_residual.result c.from_residual.ensures.1 in
    rw (p.1, p.2) (head_refused s letter.n row.name (arc_value letter.text).event before after fault
    (subst (λ (t : Text). Wrote before after t (Err fault)) bytes c.in_err-write_all.ensures.wrote))

pub returns-in_err-send_event-clause-wrote : goal.returns-in_err-send_event-clause-wrote
returns-in_err-send_event-clause-wrote g c =
    let s = c.args.schema.now in
    let letter = c.args.letter.now in
    let row = arc_value letter.row in
    let bytes : c.as_bytes.result.now ≡ head letter.n row.name = c.as_bytes.ensures.value ∙ c.as_str.ensures.value ∙ c.note_head.ensures ∙ ap (λ (r : Row). head letter.n r.name) c.deref.ensures in
    let before : SinkState = sink_state g.K.Sink c.args.out.now in
    let middle : SinkState = sink_state g.K.Sink c.write_all.new.sink in
    let after : SinkState = sink_state g.K.Sink c.send_event.new.sink in
    let fault : SinkFault = c.in_err-send_event.field-0.0 in
    let p = err_from_is_err_and c.from_residual-in_err-send_event.result c.from_residual-in_err-send_event.ensures.1 in
    rw (p.1, p.2) (event_refused s letter.n row.name (arc_value letter.text).event before middle after fault
    (subst (λ (t : Text). Wrote before middle t (Ok tt)) bytes c.in_ok-write_all.ensures.wrote)
    (subst (λ (t : EventText). Wrote middle after (event_text s t.event) (Err fault)) c.deref-2.ensures c.in_err-send_event.ensures.wrote))

pub returns-clause-wrote : goal.returns-clause-wrote
returns-clause-wrote g c =
    let s = c.args.schema.now in
    let letter = c.args.letter.now in
    let row = arc_value letter.row in
    let bytes : c.as_bytes.result.now ≡ head letter.n row.name = c.as_bytes.ensures.value ∙ c.as_str.ensures.value ∙ c.note_head.ensures ∙ ap (λ (r : Row). head letter.n r.name) c.deref.ensures in
    let before : SinkState = sink_state g.K.Sink c.args.out.now in
    let middle : SinkState = sink_state g.K.Sink c.write_all.new.sink in
    let last : SinkState = sink_state g.K.Sink c.send_event.new.sink in
    note_wrote s letter.n row.name (arc_value letter.text).event before middle last (sink_state g.K.Sink c.write_all-2.new.sink) c.write_all-2.result
    (subst (λ (t : Text). Wrote before middle t (Ok tt)) bytes c.in_ok-write_all.ensures.wrote)
    (subst (λ (t : EventText). Wrote middle last (event_text s t.event) (Ok tt)) c.deref-2.ensures c.in_ok-send_event.ensures.wrote)
    c.write_all-2.ensures.wrote
