-- The items are written one after another, with a space between them.
use Rattle.std.proofs.Common.{◌≡◌, ℤ, true, List, [], ◌++◌, codes, Ok, Err, ap, sym, ◌∙◌, subst}
use Rattle.std.specs.List.{flat_map}
use Rattle.std.proofs.lemmas.Bool.{and_parts}
use Rattle.std.proofs.lemmas.List.{take_all}
use Rattle.std.proofs.lemmas.List.Sums.{AllPass-from_list_all}
use Rattle.std.proofs.lemmas.Result.{err_from_is_err_and}
use Rattle.be_base.specs.declared.names.AttrNo.{AttrNo}
use Rattle.be_io.specs.Outside.{sink_state}
use Rattle.be_io.specs.Sink.{SinkState, Wrote}
use Rattle.be_io.specs.declared.faults.SinkFault.{SinkFault}
use Rattle.be_io.proofs.WroteLemmas.{Wrote-append, Wrote-cut, Wrote-next, Wrote-stopped}
use Rattle.be_model.specs.Lies.{item_lies, event_lies}
use Rattle.be_model.specs.Matching.{Assignments}
use Rattle.be_event.specs.Writing.{item_text, event_text}
use Rattle.be_event.proofs.sending.send_event.Goals as goal

pub send_item-requires-in-loop-item-clause-lies : goal.send_item-requires-in-loop-item-clause-lies
send_item-requires-in-loop-item-clause-lies g c =
    let s = c.args.schema.now in
    let lie = (and_parts (item_lies s c.in-Some.first.now) (event_lies s c.in-Some.rest.now) (subst (λ (items : Assignments). event_lies s items ≡ true) (sym c.items.ensures.items ∙ c.in-Some.ensures.cases.0) c.requires)).1 in
    ap (item_lies s) c.item-item.is ∙ AllPass-from_list_all (item_lies s) c.in-Some.rest.now lie c.loop-item.item-index c.item-item.result c.loop-item-test.true

pub returns-in_err-send_item-clause-wrote : goal.returns-in_err-send_item-clause-wrote
returns-in_err-send_item-clause-wrote g c =
    let s = c.args.schema.now in
    let first = c.in-Some.first.now in
    let each = λ (item : AttrNo × List ℤ). codes " " ++ item_text s item in
    let before : SinkState = sink_state g.K.Sink c.args.sink.now in
    let after : SinkState = sink_state g.K.Sink c.send_item.new.sink in
    let fault : SinkFault = c.in_err-send_item.field-0.0 in
    let p = err_from_is_err_and c.from_residual.result c.from_residual.ensures.1 in
    rw (p.1, p.2) (subst (λ (items : Assignments). Wrote before after (event_text s items) (Err fault)) (sym (sym c.items.ensures.items ∙ c.in-Some.ensures.cases.0))
    (Wrote-cut before after (item_text s first) (flat_map each c.in-Some.rest.now) fault c.in_err-send_item.ensures.wrote))

pub returns-in_err-send_item-2-clause-wrote : goal.returns-in_err-send_item-2-clause-wrote
returns-in_err-send_item-2-clause-wrote g c =
    let s = c.args.schema.now in
    let first = c.in-Some.first.now in
    let rest = c.in-Some.rest.now in
    let each = λ (item : AttrNo × List ℤ). codes " " ++ item_text s item in
    let before : SinkState = sink_state g.K.Sink c.args.sink.now in
    let middle : SinkState = sink_state g.K.Sink c.send_item.new.sink in
    let now : SinkState = sink_state g.K.Sink c.loop-item.sink in
    let after : SinkState = sink_state g.K.Sink c.send_item-in-loop-item.new.sink in
    let fault : SinkFault = c.in_err-send_item-2.field-0.0 in
    let p = err_from_is_err_and c.from_residual-in_err-send_item-2.result c.from_residual-in_err-send_item-2.ensures.1 in
    let stopped : Wrote middle after (flat_map each rest) (Err fault) =
    Wrote-stopped each rest c.loop-item.item-index c.item-item.result [] middle now after fault c.loop-item-test.true c.loop-item.invariant.wrote
    (subst (λ (item : AttrNo × List ℤ). Wrote now after (each item) (Err fault)) c.item-item.is c.in_err-send_item-2.ensures.wrote) in
    rw (p.1, p.2) (subst (λ (items : Assignments). Wrote before after (event_text s items) (Err fault)) (sym (sym c.items.ensures.items ∙ c.in-Some.ensures.cases.0))
    (Wrote-append before middle after (item_text s first) (flat_map each rest) (Err fault) c.in_ok-send_item.ensures.wrote stopped))

pub loop-item-preserved : goal.loop-item-preserved
loop-item-preserved g c =
    let s = c.args.schema.now in
    let each = λ (item : AttrNo × List ℤ). codes " " ++ item_text s item in
    let now : SinkState = sink_state g.K.Sink c.loop-item.sink in
    let after : SinkState = sink_state g.K.Sink c.send_item-in-loop-item.new.sink in
    record {
      wrote = Wrote-next each c.in-Some.rest.now c.loop-item.item-index c.item-item.result [] (sink_state g.K.Sink c.send_item.new.sink) now after
          c.loop-item-test.true c.loop-item.invariant.wrote
          (subst (λ (item : AttrNo × List ℤ). Wrote now after (each item) (Ok tt)) c.item-item.is c.in_ok-send_item-2.ensures.wrote);
      beside = c.in_ok-send_item-2.ensures.beside ∙ c.loop-item.invariant.beside;
    }

pub returns-clause-wrote : goal.returns-clause-wrote
returns-clause-wrote g c =
    let s = c.args.schema.now in
    let first = c.in-Some.first.now in
    let rest = c.in-Some.rest.now in
    let each = λ (item : AttrNo × List ℤ). codes " " ++ item_text s item in
    let before : SinkState = sink_state g.K.Sink c.args.sink.now in
    let middle : SinkState = sink_state g.K.Sink c.send_item.new.sink in
    let last : SinkState = sink_state g.K.Sink c.loop-item.sink in
    let all : Wrote middle last (flat_map each rest) (Ok tt) =
    subst (λ (items : Assignments). Wrote middle last (flat_map each items) (Ok tt)) (take_all c.loop-item.item-index rest c.loop-item-test.false) c.loop-item.invariant.wrote in
    subst (λ (items : Assignments). Wrote before last (event_text s items) (Ok tt)) (sym (sym c.items.ensures.items ∙ c.in-Some.ensures.cases.0))
    (Wrote-append before middle last (item_text s first) (flat_map each rest) (Ok tt) c.in_ok-send_item.ensures.wrote all)
