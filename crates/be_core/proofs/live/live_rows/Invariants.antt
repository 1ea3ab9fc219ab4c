use Rattle.std.proofs.Common.{◌≡◌, take}
use Rattle.be_change.specs.History.{live}
use Rattle.be_core.specs.Memory.{live_in}
use Rattle.be_core.proofs.live.live_rows.Given as goal

abbrev pub invariant-loop-place : goal.invariant-loop-place
invariant-loop-place l = live_in l.rows.items ≡ live (take l.place l.log.list)
