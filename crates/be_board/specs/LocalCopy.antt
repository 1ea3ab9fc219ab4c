-- A copy whose changes are an opening and those of session 1.
use Rattle.std.specs.Prelude.{◌≡◌, ℕ, ◌+◌, ◌==◌, ◌||◌, Bool, true, List, [], length}
use Rattle.std.specs.List.{list_all}
use Rattle.be_change.specs.History.{Entry, session_of, entries_of, has_left, placed_of, IsWellFormed}
use Rattle.be_change.specs.Requests.{Request}
use Rattle.be_board.specs.declared.answers.Answer.{Answer}
use Rattle.be_board.specs.Word.{Word}
use Rattle.be_board.specs.Changes.{Answers, AnswersAlone}

-- the entry is of the opening or of session 1
abbrev pub is_local : Entry → Bool
is_local e = (session_of e == 0) || (session_of e == 1)

-- the list is well formed, and made by session 1 behind an opening
pub record IsLocalList (h : List Entry) : Type 0 where
  pub formed : IsWellFormed h
  pub local : list_all is_local h ≡ true

-- so many of its entries are the opening, and the flag says whether the session has left
pub record IsLocal (h : List Entry) (opening : ℕ) (gone : Bool) : Type 0 where
  pub form : IsLocalList h
  pub count : opening + length (entries_of 1 h) ≡ length h
  pub bye : gone ≡ has_left 1 h

-- the word of a board for session 1 that knows the whole list, and takes no letter out unseen
abbrev pub local_word : List Entry → Word
local_word h = record { session = 1; known = h; own = placed_of 1 h; notes = [] }

-- the answer to a change that was asked for, by the list before and after
pub record IsAnswered (h h' : List Entry) (r : Request) (answer : Answer) : Type 0 where
  pub answers : Answers (local_word h) (local_word h') r answer
  pub alone : AnswersAlone (local_word h) (local_word h') r answer
