-- The ring was given the changes so far.
use Rattle.std.proofs.Common.{◌≡◌, ◌++◌}
use Rattle.rtrb.specs.Ring.{sent, SameProducer}
use Rattle.be_change.specs.Entries.{entries_in}
use Rattle.be_mirror.proofs.ring.give_all.Given as goal

abbrev pub invariant-loop-change : goal.invariant-loop-change
invariant-loop-change g l =
    (goal.iterator-loop-change g).can_next l.change-iterator
    × (goal.iterator-loop-change g).is_finite l.change-iterator
    × SameProducer l.fn.giver l.giver
    × (l.fn.changes.items ≡ l.yielded ++ l.change-iterator.rest.items)
    × (entries_in (sent l.giver) ≡ entries_in (sent l.fn.giver) ++ entries_in l.yielded)
