use Rattle.std.proofs.Common.{length}
use Rattle.be_cover.specs.Covering.{chosen}
use Rattle.be_cover.proofs.Assigning.{AsFar}
use Rattle.be_cover.proofs.events.event_at.Given as goal

abbrev pub invariant-loop-number : goal.invariant-loop-number
invariant-loop-number l = AsFar (chosen l.s l.q l.r l.by) l.number (length l.s) l.event
