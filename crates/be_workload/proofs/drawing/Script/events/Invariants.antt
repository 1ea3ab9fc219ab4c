use Rattle.std.proofs.Common.{◌≡◌}
use Rattle.be_workload.specs.Drawing.{events}
use Rattle.be_workload.proofs.drawing.Script.events.Given as goal

abbrev pub invariant-loop-done : goal.invariant-loop-done
invariant-loop-done l = l.self ≡ events l._done l.fn.self
