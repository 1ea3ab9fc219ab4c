-- The names so far and those of the rows that are left are all names.
use Rattle.std.proofs.Common.{◌≡◌, ◌++◌, drop}
use Rattle.be_model.specs.Rows.{rows_in}
use Rattle.be_protocol.specs.Replies.{names_text}
use Rattle.be_protocol.specs.Texts.{names_in}
use Rattle.be_protocol.proofs.texts.push_names.Given as goal

abbrev pub invariant-loop-row : goal.invariant-loop-row
invariant-loop-row l =
    l.text.items ++ names_text (names_in (rows_in (drop l.row-index l.rows))) ≡ l.initial.text.items ++ names_text (names_in (rows_in l.rows))
