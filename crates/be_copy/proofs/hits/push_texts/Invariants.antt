-- The names so far and those of the ids that are left are all names.
use Rattle.std.proofs.Common.{◌≡◌, ◌++◌, drop}
use Rattle.be_copy.specs.Hits.{all_texts_at}
use Rattle.be_copy.proofs.hits.push_texts.Given as goal

abbrev pub invariant-loop-id : goal.invariant-loop-id
invariant-loop-id l = l.names.items ++ all_texts_at l.texts (drop l.id-index l.ids) ≡ l.initial.names.items ++ all_texts_at l.texts l.ids
