-- The press has all that was taken out so far.
use Rattle.std.proofs.Common.{◌≡◌}
use Rattle.rtrb.specs.Ring.{received, SameConsumer}
use Rattle.be_base.specs.Lists.{BeginsWith}
use Rattle.be_change.specs.Entries.{entries_in}
use Rattle.be_change.specs.Sound.{Sound}
use Rattle.be_mirror.proofs.ring.print_taken.Given as goal

abbrev pub invariant-loop : goal.invariant-loop
invariant-loop g l =
    (goal.iterator-loop g).can_next l.iterator'
    × (goal.iterator-loop g).is_finite l.iterator'
    × SameConsumer l.fn.taker l.taker
    × Sound g.P.Printer.schema (entries_in (received l.taker))
    × (g.P.Printer.list l.press ≡ entries_in (received l.taker))
    × BeginsWith (g.P.Printer.list l.press) (g.P.Printer.published l.press)
    × BeginsWith (g.P.Printer.published l.press) (g.P.Printer.published l.fn.press)
