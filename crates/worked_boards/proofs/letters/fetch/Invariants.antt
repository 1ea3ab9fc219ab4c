-- The schema stays.
use Rattle.std.proofs.Common.{◌≡◌}
use Rattle.worked_boards.proofs.letters.fetch.Given as goal

abbrev pub invariant-loop : goal.invariant-loop
invariant-loop g l = (g.B.Board.state l.board).schema ≡ (g.B.Board.state l.fn.board).schema
