use Rattle.std.proofs.Common.{◌≡◌, ◌++◌, map}
use Rattle.be_model.specs.Letters.{plain_letter}
use Rattle.be_board.proofs.letter_box.LetterBox.put_all.Given as goal

abbrev pub invariant-loop-letter : goal.invariant-loop-letter
invariant-loop-letter l =
    (goal.iterator-loop-letter).can_next l.letter-iterator ×
    (goal.iterator-loop-letter).is_finite l.letter-iterator ×
    (l.fn.letters.items ≡ l.yielded ++ l.letter-iterator.rest.items) ×
    (l.self ≡ l.initial.self ++ map plain_letter l.yielded)
