use Rattle.std.proofs.Common.{◌≡◌}
use Rattle.be_workload.specs.Drawing.{items}
use Rattle.be_workload.proofs.drawing.Script.event.Given as goal

abbrev pub invariant-loop-attr : goal.invariant-loop-attr
invariant-loop-attr l = l.self ≡ items l.attr l.fn.self
