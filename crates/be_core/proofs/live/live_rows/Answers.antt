use Rattle.std.proofs.Common.{◌≡◌, Some, sym, ap, ◌∙◌}
use Rattle.std.specs.List.{slice_get}
use Rattle.be_change.specs.History.{after_entry}
use Rattle.be_change.specs.Entries.{entry_of}
use Rattle.be_core.proofs.InMemory.{live_more}
use Rattle.be_core.proofs.live.live_rows.Goals as goal

pub loop-place-preserved : goal.loop-place-preserved
loop-place-preserved c =
    let e = entry_of c.deref.result.now in
    let at : slice_get c.args.log.now.list c.loop-place.place ≡ Some e = c.at.ensures ∙ ap (λ x. Some (entry_of x)) (sym c.deref.ensures) in
    c.in_ok-add_change.ensures ∙ (ap (λ l. after_entry l c.loop-place.place e) c.loop-place.invariant ∙ sym (live_more c.args.log.now.list c.loop-place.place e at))
