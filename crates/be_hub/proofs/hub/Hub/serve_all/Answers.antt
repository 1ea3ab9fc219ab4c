use Rattle.std.proofs.Common.{sym, subst, ◌∙◌, slice_index_or}
use Rattle.be_hub.specs.Files.{FileServed}
use Rattle.be_hub.proofs.Pairs.{ok_weaker, at_place}
use Rattle.be_hub.proofs.hub.Hub.serve_all.Goals as goal

pub returns-clause-ends : goal.returns-clause-ends
returns-clause-ends g c =
    ok_weaker _ _ c.map_vec.result
    (λ v each i job end at at'.
    let here = at_place c.args.jobs.items i job job at in
    let there = at_place v.items i end end at' in
    let one = (each i end here.0).1 in
    subst (λ e. FileServed g.J.Naming.schema job.task.items job.seat e.seat e.transcript.items e.end) there.1
    (subst (λ x. FileServed g.J.Naming.schema x.task.items x.seat (slice_index_or v.items i end).seat (slice_index_or v.items i end).transcript.items (slice_index_or v.items i end).end) (sym (one.job_is job) ∙ here.1) one.call.met))
    c.map_vec.ensures.each
