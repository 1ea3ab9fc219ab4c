-- The lines so far and those of the changes that are left are all lines.
use Rattle.std.proofs.Common.{◌≡◌, ◌+◌, ◌++◌, drop}
use Rattle.std.specs.List.{flat_map}
use Rattle.be_change.specs.Entries.{entries_in}
use Rattle.be_protocol.specs.Replies.{change_lines, with_lf}
use Rattle.be_protocol.proofs.texts.push_changes.Given as goal

abbrev pub invariant-loop-i : goal.invariant-loop-i
invariant-loop-i l =
    l.text.items ++ flat_map with_lf (change_lines l.schema (l.place + l.i) (entries_in (drop l.i l.changes))) ≡ l.initial.text.items ++ flat_map with_lf (change_lines l.schema l.place (entries_in l.changes))
