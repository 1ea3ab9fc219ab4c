use Rattle.be_workload.proofs.Scripts.{workloads_read}
use Rattle.be_workload.proofs.laws.workloads_are_read.Goals as goal

pub returns : goal.returns
returns c = workloads_read
