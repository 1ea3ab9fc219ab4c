use Rattle.std.proofs.Common.{◌+◌, ◌-◌}
use Rattle.worked_door.specs.Served.{IsReady}
use Rattle.worked_door.proofs.serve.serve.Given as goal

abbrev pub invariant-loop-link : goal.invariant-loop-link
invariant-loop-link g l = IsReady (g.D.Door.state l.door) l.count

abbrev pub decreases-loop-link : goal.decreases-loop-link
decreases-loop-link g l = l.count.links - (l.count.given + l.count.failed + l.count.refused)
