use Rattle.std.proofs.Common.{sym, subst, Ok, IfOk, slice_index_or}
use Rattle.be_hub.specs.Links.{WorkerServed}
use Rattle.be_hub.proofs.Pairs.{ok_weaker, at_place}
use Rattle.be_io.specs.Outside.{link_state}
use Rattle.be_hub.proofs.hub.Hub.serve_doors.Goals as goal

pub returns-clause-ends : goal.returns-clause-ends
returns-clause-ends g c =
    ok_weaker _ _ c.map_vec.result
    (λ v each i job end at at'.
    let told = link_state g.L.Source g.L.Sink in
    let door = g.D.Door.state c.args.door.now in
    let here = at_place c.args.jobs.items i job job at in
    let there = at_place v.items i (Ok end) (Ok end) at' in
    let one = (each i (Ok end) here.0).1 in
    let met = subst (λ r. IfOk r (λ e. WorkerServed told g.J.Naming.schema g.J.BoxNames.boxes door (slice_index_or c.args.jobs.items i job).seat e.seat e.count e.ends.items e.tended e.asked e.between)) there.1
    (subst (λ x. IfOk (slice_index_or v.items i (Ok end)) (λ e. WorkerServed told g.J.Naming.schema g.J.BoxNames.boxes door x.seat e.seat e.count e.ends.items e.tended e.asked e.between)) (sym (one.job_is job)) one.call.met) in
    subst (λ x. WorkerServed told g.J.Naming.schema g.J.BoxNames.boxes door x.seat end.seat end.count end.ends.items end.tended end.asked end.between) here.1 met)
    c.map_vec.ensures.each
