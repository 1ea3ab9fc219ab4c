-- The names so far and those of the ids that are left are all names.
use Rattle.std.proofs.Common.{◌≡◌, ◌++◌, drop}
use Rattle.be_copy.specs.Hits.{all_spaced_at}
use Rattle.be_copy.proofs.hits.push_from_rows.Given as goal

abbrev pub invariant-loop-id : goal.invariant-loop-id
invariant-loop-id l = l.names.items ++ all_spaced_at l.log.list (drop l.id-index l.ids) ≡ l.initial.names.items ++ all_spaced_at l.log.list l.ids
