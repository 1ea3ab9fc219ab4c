use Rattle.std.proofs.Common.{ℤ, List, Ok, Err, sym, ap, ◌∙◌, rules}
use Rattle.std.proofs.lemmas.List.Sorted.{answers_always}
use Rattle.be_base.specs.declared.names.AttrNo.{AttrNo}
use Rattle.be_model.specs.Forms.{attrs_rise}
use Rattle.be_model.specs.Matching.{attrs_of, values_of}
use Rattle.be_model.proofs.EventItems.{searched}
use Rattle.be_model.proofs.events.Event.values_searched.Goals as goal

pub returns-in-Ok : goal.returns-in-Ok
returns-in-Ok c =
    let found = c.in-Ok.ensures.position (λ (y : AttrNo × List ℤ). y.0.0) (answers_always _ _ _ (λ f a r g h. search rules)) in
    let same = c.as_slice-items.ensures.value in
    sym (searched c.as_slice-items.result.now c.args.a (Ok c.in-Ok.place) (ap (λ e. attrs_rise (attrs_of e)) same ∙ c.self.invariant.form.rising) found c.in-Ok.ensures.bound c.index-items-place.result)
    ∙ ap (λ e. values_of e c.args.a) (same ∙ c.self.view_is)

pub returns-in-Err : goal.returns-in-Err
returns-in-Err c =
    let found = c.in-Err.ensures.position (λ (y : AttrNo × List ℤ). y.0.0) (answers_always _ _ _ (λ f a r g h. search rules)) in
    let same = c.as_slice-items.ensures.value in
    sym (searched c.as_slice-items.result.now c.args.a (Err c.in-Err.field-0) (ap (λ e. attrs_rise (attrs_of e)) same ∙ c.self.invariant.form.rising) found c.in-Err.ensures.bound)
    ∙ ap (λ e. values_of e c.args.a) (same ∙ c.self.view_is)
