use Rattle.std.proofs.Common.{◌≡◌, length, slice_get, Some, Ok, sym, ap, subst, ◌∙◌}
use Rattle.std.proofs.lemmas.List.{length-map}
use Rattle.be_hub.specs.Links.{WorkerServed}
use Rattle.be_hub.proofs.Pairs.{get_map, map_at, ok_weaker}
use Rattle.be_io.specs.Outside.{link_state}
use Rattle.be_hub.proofs.hub.Hub.run_door.Goals as goal

pub returns-clause-count : goal.returns-clause-count
returns-clause-count g c =
    ok_weaker _ _ c.all_done.result
    (λ v is. sym (length-map v.items (λ end. Ok end)) ∙ (ap (λ l. length l) is ∙ (c.in_ok-ends.ensures.count ∙ (sym (length-map c.in_ok-jobs.jobs.items (λ job. job.seat)) ∙ ap (λ l. length l) c.in_ok-jobs.ensures.seats))))
    c.all_done.ensures

pub returns-clause-ends : goal.returns-clause-ends
returns-clause-ends g c =
    ok_weaker _ _ c.all_done.result
    (λ v is i seat end a e.
    let s = get_map (λ job. job.seat) c.in_ok-jobs.jobs.items i seat (subst (λ l. slice_get l i ≡ Some seat) (sym c.in_ok-jobs.ensures.seats) a) in
    let at : slice_get c.in_ok-ends.ends.items i ≡ Some (Ok end) = subst (λ l. slice_get l i ≡ Some (Ok end)) is (map_at (λ e. Ok e) v.items i end e) in
    subst (λ x. WorkerServed (link_state g.L.Source g.L.Sink) g.J.Naming.schema g.J.BoxNames.boxes (g.D.Door.state c.args.door.now) x end.seat end.count end.ends.items end.tended end.asked end.between) s.2 (c.in_ok-ends.ensures.ends i s.0 end s.1 at))
    c.all_done.ensures
