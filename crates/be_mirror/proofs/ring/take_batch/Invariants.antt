-- What was taken out so far.
use Rattle.std.proofs.Common.{◌≡◌, ◌++◌}
use Rattle.rtrb.specs.Ring.{received, SameConsumer}
use Rattle.be_change.specs.Entries.{entries_in}
use Rattle.be_change.specs.Sound.{Sound}
use Rattle.be_mirror.proofs.ring.take_batch.Given as goal

abbrev pub invariant-loop : goal.invariant-loop
invariant-loop g l =
    SameConsumer l.fn.taker l.taker
    × (entries_in (received l.taker) ≡ entries_in (received l.fn.taker) ++ entries_in l.batch.items)
    × Sound g.P.Printer.schema (entries_in (received l.taker))
