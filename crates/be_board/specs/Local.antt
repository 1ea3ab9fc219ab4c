-- A board over one copy, for session 1 alone.
use Rattle.std.specs.Prelude.{ℕ, true, not, List, [], map, filter, Some}
use Rattle.be_model.specs.declared.changes.Row.{Row}
use Rattle.be_model.specs.Letters.{PlainLetter}
use Rattle.be_model.specs.Matching.{Assignments}
use Rattle.be_model.specs.Schemas.{Attributes}
use Rattle.be_change.specs.History.{Entry}
use Rattle.be_change.specs.Opening.{opening_of, is_of_nobody}
use Rattle.be_board.specs.Word.{IsDelivered}
use Rattle.be_board.specs.State.{BoardState}
use Rattle.be_board.specs.Letters.{IsLetterFor, note_of}
use Rattle.be_board.specs.LocalCopy.{local_word}

-- the list and the index of what is live in it, the letters in the box, in order, and what was counted
pub record Local (X : Type 0) : Type 0 where
  pub list : List Entry
  pub index : X
  pub letters : List PlainLetter
  pub reads : ℕ
  pub fulls : ℕ
  pub empties : ℕ

-- the board as whoever asks it sees it. It tells its box
abbrev pub local_state : {X : Type 0} → Attributes → Local X → BoardState
local_state s b = record {
  seat = 0;
  schema = s;
  word = local_word b.list;
  box = Some (map note_of b.letters);
  counts = record { reads = b.reads; shuts = 0; splits = 0; fulls = b.fulls; empties = b.empties; puts = 0; tends = 0 };
  alone = true;
  per_tend = 0;
}

-- a board that was opened with these rows, and was asked nothing
abbrev pub opened_state : Attributes → List Row → BoardState
opened_state s rows = record {
  seat = 0;
  schema = s;
  word = record { session = 1; known = opening_of rows; own = []; notes = [] };
  box = Some [];
  counts = record { reads = 0; shuts = 0; splits = 0; fulls = 0; empties = 0; puts = 0; tends = 0 };
  alone = true;
  per_tend = 0;
}

-- a letter for session 1, of a row that was live in the list
pub record IsLocalLetter (s : Attributes) (h : List Entry) (l : PlainLetter) : Type 0 where
  pub fit : IsLetterFor s 1 l
  pub delivered : IsDelivered h l

-- the letter that tells a row's session of an event
abbrev pub letter_for : ℕ → Assignments → Row → PlainLetter
letter_for n e row = record { session = row.session.0; n = n; row = row; event = e }

-- the rows of somebody's session
abbrev pub addressed : List Row → List Row
addressed rows = filter (λ (row : Row). not (is_of_nobody row)) rows

-- a letter for each of them
abbrev pub letters_for : ℕ → Assignments → List Row → List PlainLetter
letters_for n e rows = map (letter_for n e) (addressed rows)
