-- The press has the changes so far, and readers see what they saw.
use Rattle.std.proofs.Common.{◌≡◌, ◌++◌}
use Rattle.be_change.specs.Entries.{entries_in}
use Rattle.be_mirror.proofs.printing.PressPrinter.print.Given as goal

abbrev pub invariant-loop-change : goal.invariant-loop-change
invariant-loop-change g l =
    (goal.iterator-loop-change g).can_next l.change-iterator
    × (goal.iterator-loop-change g).is_finite l.change-iterator
    × (l.fn.changes.items ≡ l.yielded ++ l.change-iterator.rest.items)
    × (l.self.list ≡ l.fn.self.list ++ entries_in l.yielded)
    × (l.self.published ≡ l.fn.self.published)
