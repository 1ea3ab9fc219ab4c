use Rattle.std.proofs.Common.{◌≡◌, take}
use Rattle.be_core.specs.Acts.{deeds_of}
use Rattle.be_core.specs.World.{run}
use Rattle.be_core.specs.Memory.{state_of}
use Rattle.be_core.proofs.world.run_all.Given as goal

abbrev pub invariant-loop-act : goal.invariant-loop-act
invariant-loop-act l = (state_of l.core, l.replies.items) ≡ run (state_of l.fn.core) (deeds_of (take l.act-index l.acts))
