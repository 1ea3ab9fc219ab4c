-- A set is written behind its name.
use Rattle.std.proofs.Common.{rules, ◌≡◌, ℤ, List, ◌++◌, length, codes, Err, ap, ◌∙◌, subst}
use Rattle.std.proofs.lemmas.Result.{err_from_is_err_and}
use Rattle.be_base.specs.Sets.{set_text}
use Rattle.be_base.specs.Text.{Text}
use Rattle.be_io.specs.Outside.{sink_state}
use Rattle.be_io.specs.Sink.{SinkState, Wrote}
use Rattle.be_io.specs.declared.faults.SinkFault.{SinkFault}
use Rattle.be_io.proofs.WroteLemmas.{Wrote-append, Wrote-cut}
use Rattle.be_model.specs.Texts.{value_text}
use Rattle.be_event.proofs.SentItems.{item_sent}
use Rattle.be_event.proofs.sending.send_item.Goals as goal

pub returns-in_err-write_all-in-None-clause-wrote : goal.returns-in_err-write_all-in-None-clause-wrote
returns-in_err-write_all-in-None-clause-wrote g c =
    let attribute = c.attribute-attribute.result.now in
    let mark = c.args.mark.now in
    let set : Text = set_text (value_text attribute.domain) c.args.item.now.1 in
    let before : SinkState = sink_state g.K.Sink c.args.sink.now in
    let after : SinkState = sink_state g.K.Sink c.write_all-in-None.new.sink in
    let fault : SinkFault = c.in_err-write_all-in-None.field-0.0 in
    let p = err_from_is_err_and c.from_residual.result c.from_residual.ensures.1 in
    let head : c.as_bytes-in-None.result.now ≡ (mark ++ attribute.name) ++ codes "=" = search rules in
    let many : length c.args.item.now.1 ≡ 1 → ⊥ = λ one. c.in-None.ensures.many (ap length c.as_slice-values.ensures.numbers ∙ one) in
    rw (p.1, p.2) (subst (λ t. Wrote before after t (Err fault))
    (ap (λ t. t ++ set) head ∙ item_sent c.args.schema.now c.args.item.now attribute mark c.attribute-attribute.ensures.there many)
    (Wrote-cut before after c.as_bytes-in-None.result.now set fault c.in_err-write_all-in-None.ensures.wrote))

pub returns-in_ok-write_all-in-None-clause-wrote : goal.returns-in_ok-write_all-in-None-clause-wrote
returns-in_ok-write_all-in-None-clause-wrote g c =
    let attribute = c.attribute-attribute.result.now in
    let mark = c.args.mark.now in
    let values = c.args.item.now.1 in
    let set : Text = set_text (value_text attribute.domain) values in
    let before : SinkState = sink_state g.K.Sink c.args.sink.now in
    let middle : SinkState = sink_state g.K.Sink c.write_all-in-None.new.sink in
    let after : SinkState = sink_state g.K.Sink c.send_set.new.sink in
    let head : c.as_bytes-in-None.result.now ≡ (mark ++ attribute.name) ++ codes "=" = search rules in
    let many : length values ≡ 1 → ⊥ = λ one. c.in-None.ensures.many (ap length c.as_slice-values.ensures.numbers ∙ one) in
    subst (λ t. Wrote before after t c.send_set.result)
    (ap (λ t. t ++ set) head ∙ item_sent c.args.schema.now c.args.item.now attribute mark c.attribute-attribute.ensures.there many)
    (Wrote-append before middle after c.as_bytes-in-None.result.now set c.send_set.result c.in_ok-write_all-in-None.ensures.wrote
    (subst (λ (vs : List ℤ). Wrote middle after (set_text (value_text attribute.domain) vs) c.send_set.result) c.as_slice-values.ensures.numbers c.send_set.ensures.wrote))
