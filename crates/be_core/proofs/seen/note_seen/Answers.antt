use Rattle.std.proofs.Common.{◌==◌, sym, ap, ◌∙◌}
use Rattle.std.specs.List.{position}
use Rattle.be_core.proofs.InMemory.{seen_set, seen_new}
use Rattle.be_core.proofs.seen.note_seen.Goals as goal

pub returns-in-Some : goal.returns-in-Some
returns-in-Some c =
    seen_set c.args.session.0 c.args.n c.args.rows.now.items c.in-Some.place c.index_mut.result.now
    (sym (c.place_of.ensures.exact ∙ ap (position (λ x. x.0.0 == c.args.session.0)) c.as_slice.ensures.value) ∙ c.in-Some.is) c.index_mut.ensures.value

pub returns-in_ok-push-in-None : goal.returns-in_ok-push-in-None
returns-in_ok-push-in-None c =
    c.in_ok-push-in-None.ensures.items
    ∙ sym (seen_new c.args.session.0 c.args.n c.args.rows.now.items (sym (c.place_of.ensures.exact ∙ ap (position (λ x. x.0.0 == c.args.session.0)) c.as_slice.ensures.value) ∙ c.in-None.is))
