use Rattle.std.proofs.Common.{◌≡◌, drop}
use Rattle.be_core.specs.World.{named}
use Rattle.be_core.specs.Memory.{live_in}
use Rattle.be_core.proofs.live.find_named.Given as goal

abbrev pub invariant-loop-row : goal.invariant-loop-row
invariant-loop-row l = named l.name (live_in (drop l.row-index l.rows)) ≡ named l.name (live_in l.rows)
