-- What a board vouches for, and when a list of changes keeps its word.
use Rattle.std.specs.Prelude.{◌≡◌, ℕ, ◌+◌, ◌≤◌, ◌==◌, List, [], ◌∷◌, filter, length, max, take, All, Some}
use Rattle.be_base.specs.Lists.{BeginsWith}
use Rattle.be_model.specs.ByIds.{row_at}
use Rattle.be_model.specs.Letters.{PlainLetter}
use Rattle.be_model.specs.Rows.{id_of}
use Rattle.be_change.specs.History.{Entry, session_of, placed_of, live, IsWellFormed}

pub record Word : Type 0 where
  -- whose board it is
  pub session : ℕ
  -- the longest list of changes that was seen
  pub known : List Entry
  -- each change that was accepted, with its place, in order. On a seat these are those of every session that it had
  pub own : List (ℕ × Entry)
  -- the letters that were taken out of a shared mailbox, in order, those that weren't given included
  pub notes : List PlainLetter

-- the accepted changes of one session
abbrev pub own_of : ℕ → List (ℕ × Entry) → List (ℕ × Entry)
own_of k own = filter (λ (p : ℕ × Entry). session_of p.1 == k) own

-- those of the board's session
abbrev pub own_in : Word → List (ℕ × Entry)
own_in w = own_of w.session w.own

-- the least length of a list that has all of these places
abbrev pub top : List (ℕ × Entry) → ℕ
top [] = 0
top (p ∷ ps) = max (p.0 + 1) (top ps)

-- the letter's row is live after the first n changes
pub record IsDelivered (h : List Entry) (l : PlainLetter) : Type 0 where
  pub within : l.n ≤ length h
  pub stands : row_at (id_of l.row) (live (take l.n h)) ≡ Some l.row

-- the list keeps the word: it is well formed, it goes on where the known one ends, the session's entries in it are the
-- accepted ones, at their places, and each letter's row was live in it
pub record Keeps (h : List Entry) (w : Word) : Type 0 where
  pub formed : IsWellFormed h
  pub known : BeginsWith h w.known
  pub own : placed_of w.session h ≡ own_in w
  pub notes : All (IsDelivered h) w.notes
