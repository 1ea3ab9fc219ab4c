-- The letters so far are those for the rows so far.
use Rattle.std.proofs.Common.{◌≡◌, map, take}
use Rattle.be_model.specs.Letters.{plain_letter}
use Rattle.be_model.specs.Rows.{rows_in}
use Rattle.be_board.specs.Local.{letters_for}
use Rattle.be_board.proofs.posting.make_letters.Given as goal

abbrev pub invariant-loop-row : goal.invariant-loop-row
invariant-loop-row l =
    map plain_letter l.letters.items ≡ take l.room (letters_for l.n l.event (rows_in (take l.row-index l.rows)))
