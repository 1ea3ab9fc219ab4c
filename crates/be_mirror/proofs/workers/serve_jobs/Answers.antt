use Rattle.be_hub.proofs.Pairs.{ok_weaker}
use Rattle.be_mirror.proofs.AllRead.{all_left}
use Rattle.be_mirror.proofs.workers.serve_jobs.Goals as goal

pub returns-clause-ends : goal.returns-clause-ends
returns-clause-ends g c = ok_weaker _ _ c.all_done.result (λ v is. all_left _ v.items _ is c.in_ok-results.ensures.ends) c.all_done.ensures
