-- The press and the copy have one list.
use Rattle.std.proofs.Common.{◌≡◌}
use Rattle.worked_published.proofs.race.write_all.Given as goal

abbrev pub invariant-loop-place : goal.invariant-loop-place
invariant-loop-place g l = (l.press.list ≡ l.copy.list) × (l.copy.index.schema ≡ g.J.Naming.schema)
