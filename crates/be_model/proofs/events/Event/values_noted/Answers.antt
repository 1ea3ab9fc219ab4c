use Rattle.std.proofs.Common.{ℤ, List, get_or, sym, ap, subst, ◌∙◌, arith}
use Rattle.std.proofs.lemmas.List.{get_or_default}
use Rattle.be_base.specs.declared.names.AttrNo.{AttrNo}
use Rattle.be_model.specs.Events.{TellPlaces}
use Rattle.be_model.specs.Forms.{attrs_rise}
use Rattle.be_model.specs.Matching.{attrs_of, values_of}
use Rattle.be_model.proofs.EventItems.{values_of-at}
use Rattle.be_model.proofs.EventPlaces.{none_noted}
use Rattle.be_model.proofs.events.Event.values_noted.Goals as goal
use Rattle.be_model.proofs.events.Event.values_noted.Goals.{else-place-items-via-then-place-items+else-items-place, else-place-items-via-else-place-items}

pub returns-then-items-place : goal.returns-then-items-place
returns-then-items-place c =
    let e = c.as_slice-items.result.now in
    let same = c.as_slice-items.ensures.value in
    let place = c.from-place.result in
    let d = c.index-items-place-then-items-place.result in
    let up = ap (λ e. attrs_rise (attrs_of e)) same ∙ c.self.invariant.form.rising in
    let attr = ap (λ (x : AttrNo × List ℤ). x.0.0) (get_or_default e place d c.index-items-place.result c.if-place-items.true) ∙ c.if-items-place.true in
    sym (values_of-at e c.args.a place d up c.if-place-items.true attr)
    ∙ ap (λ e. values_of e c.args.a) (same ∙ c.self.view_is)

pub returns-else-place-items : goal.returns-else-place-items
returns-else-place-items c =
    let e = c.as_slice-items.result.now in
    let same = c.as_slice-items.ensures.value in
    let place = c.from-place.result in
    let noted = c.from-place.ensures ∙ ap (λ b. get_or c.self.inside.places b 0) c.from.ensures in
    sym (none_noted e c.self.inside.places c.args.a place (subst (λ e. TellPlaces c.self.inside.places e) (sym same) c.self.invariant.told) c.requires noted (λ d l k.
    elim c.else-place-items.branch [
      | else-place-items-via-then-place-items+else-items-place w ↦ w.if-items-place.false (ap (λ (x : AttrNo × List ℤ). x.0.0) (get_or_default e place w.index-items-place.result d l) ∙ k)
      | else-place-items-via-else-place-items w ↦ absurd (omega (arith, w.if-place-items.false))
    ]))
    ∙ ap (λ e. values_of e c.args.a) (same ∙ c.self.view_is)
