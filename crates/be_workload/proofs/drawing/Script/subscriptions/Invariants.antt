use Rattle.std.proofs.Common.{◌≡◌}
use Rattle.be_workload.specs.Drawing.{subscriptions}
use Rattle.be_workload.proofs.drawing.Script.subscriptions.Given as goal

abbrev pub invariant-loop-number : goal.invariant-loop-number
invariant-loop-number l = l.self ≡ subscriptions l.number l.fn.self
