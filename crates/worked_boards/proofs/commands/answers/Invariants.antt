-- The schema stays.
use Rattle.std.proofs.Common.{◌≡◌}
use Rattle.worked_boards.proofs.commands.answers.Given as goal

abbrev pub invariant-loop-command : goal.invariant-loop-command
invariant-loop-command g l =
    (goal.iterator-loop-command g).can_next l.command-iterator ×
    (goal.iterator-loop-command g).is_finite l.command-iterator ×
    ((g.B.Board.state l.board).schema ≡ l.schema)
