use Rattle.std.proofs.Common.{◌≡◌, true, [], ◌∷◌, ◌++◌, length, sym, ap, subst, ◌∙◌, arith}
use Rattle.be_model.specs.Events.{IsNoted, noted}
use Rattle.be_model.specs.Forms.{attrs_rise}
use Rattle.be_model.specs.Matching.{attrs_of}
use Rattle.be_model.proofs.EventPlaces.{few_below, IsNoted-push}
use Rattle.be_model.proofs.events.Event.push.Goals as goal

pub note-requires : goal.note-requires
note-requires c =
    let up : attrs_rise (attrs_of c.self.inside.items.items ++ c.args.item.0 ∷ []) ≡ true = ap (λ e. attrs_rise (attrs_of e ++ c.args.item.0 ∷ [])) c.self.view_is ∙ c.requires in
    omega (arith, few_below c.self.inside.items.items c.args.item.0 up, c.len-place.ensures)

pub invariant_of-self-2 : goal.invariant_of-self-2
invariant_of-self-2 c =
    let items = c.self.inside.items.items in
    let places = c.self.inside.places in
    let up : attrs_rise (attrs_of items ++ c.args.item.0 ∷ []) ≡ true = ap (λ e. attrs_rise (attrs_of e ++ c.args.item.0 ∷ [])) c.self.view_is ∙ c.requires in
    let count : c.len-place.result ≡ length items = omega (arith, c.len-place.ensures) in
    let is_noted = c.note.ensures ∙ ap (λ place. noted places c.args.item.0 place) count in
    let made = IsNoted-push items c.args.item places c.self.invariant c.as_slice.ensures.form up in
    subst (λ e. IsNoted e c.note.new.places) (sym c.in_ok-push.ensures.items) (subst (λ ps. IsNoted (items ++ c.args.item ∷ []) ps) (sym is_noted) made)
