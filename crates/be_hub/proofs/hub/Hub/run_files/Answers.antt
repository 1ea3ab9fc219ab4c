use Rattle.std.proofs.Common.{sym, ap, subst, ◌∙◌, ◌≡◌, slice_get, Some}
use Rattle.be_hub.specs.Files.{FileServed}
use Rattle.be_hub.proofs.Pairs.{get_map, one_at, ok_said}
use Rattle.be_hub.proofs.hub.Hub.run_files.Goals as goal

pub returns-clause-ends : goal.returns-clause-ends
returns-clause-ends g c i seat file end a b e =
    let jobs = c.in_ok-jobs.ensures in
    let s = get_map (λ job. job.seat) c.in_ok-jobs.jobs.items i seat (subst (λ l. slice_get l i ≡ Some seat) (sym jobs.seats) a) in
    let f = get_map (λ job. job.task) c.in_ok-jobs.jobs.items i file (subst (λ l. slice_get l i ≡ Some file) (sym jobs.files) b) in
    let same = one_at c.in_ok-jobs.jobs.items i f.0 s.0 f.1 s.1 in
    let all = ok_said _ c.join-ends.result.0 c.in_ok-ends.field-0 c.in_ok-ends.was c.join-ends.ensures.first.1 in
    let one = all i s.0 end s.1 e in
    subst (λ x. FileServed g.J.Naming.schema file.items x end.seat end.transcript.items end.end) s.2
    (subst (λ x. FileServed g.J.Naming.schema x.items s.0.seat end.seat end.transcript.items end.end) (ap (λ job. job.task) (sym same) ∙ f.2) one)
