-- The changes so far.
use Rattle.std.proofs.Common.{◌≡◌, ◌++◌, ◌-◌, take, drop}
use Rattle.be_base.specs.Lists.{BeginsWith}
use Rattle.be_change.specs.Entries.{entries_in}
use Rattle.be_copy.proofs.tails.push_tail.Given as goal

abbrev pub invariant-loop-place : goal.invariant-loop-place
invariant-loop-place l = record {
  put : entries_in l.changes.items ≡ entries_in l.fn.changes.items ++ take (l.place - l.from) (drop l.from l.log.list);
  front : BeginsWith l.changes.items l.fn.changes.items;
}
