use Rattle.std.proofs.Common.{◌≡◌}
use Rattle.be_workload.specs.Drawing.{draw, predicates}
use Rattle.be_workload.proofs.drawing.Script.expression.Given as goal

abbrev pub invariant-loop-next : goal.invariant-loop-next
invariant-loop-next l = l.self ≡ predicates l._next (draw 4 l.fn.self).1
