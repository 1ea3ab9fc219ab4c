-- A board as whoever asks it sees it, and what each call leaves.
use Rattle.std.specs.Prelude.{◌≡◌, ℕ, ◌+◌, ◌≤◌, Bool, List, Option, Some, None}
use Rattle.std.specs.List.{list_any}
use Rattle.be_base.specs.Counts.{RisesBy}
use Rattle.be_base.specs.Lists.{BeginsWith}
use Rattle.be_model.specs.Schemas.{Attributes}
use Rattle.be_change.specs.History.{Entry, is_leave_of}
use Rattle.be_change.specs.Requests.{Note}
use Rattle.be_board.specs.Word.{Word}

-- counts that never fall. All but `puts` stay at the last value of their type
pub record BoardCounts : Type 0 where
  -- reads that were answered
  pub reads : ℕ
  -- reads that were refused an entry
  pub shuts : ℕ
  -- changes that were answered by two numbers that differ
  pub splits : ℕ
  -- letters that found their mailbox full
  pub fulls : ℕ
  -- looks that found the mailbox empty
  pub empties : ℕ
  -- letters that were put into shared mailboxes. A board that tells its box puts none there
  pub puts : ℕ
  -- tends that the board was asked for, as it counts them
  pub tends : ℕ

pub record BoardState : Type 0 where
  -- which seat of the server it is, from 0
  pub seat : ℕ
  pub schema : Attributes
  pub word : Word
  -- the letters in its box, in order, where it tells them
  pub box : Option (List Note)
  pub counts : BoardCounts
  -- nobody but this board changes its list, and each change can be read at once
  pub alone : Bool
  -- what a tend adds to that count: 1 where the rows' keeper is tended through the board, else 0
  pub per_tend : ℕ

-- the board's session has left
abbrev pub is_gone : BoardState → Bool
is_gone b = list_any (λ (p : ℕ × Entry). is_leave_of b.word.session p.1) b.word.own

pub record NoneFalls (c c' : BoardCounts) : Type 0 where
  pub reads : c.reads ≤ c'.reads
  pub shuts : c.shuts ≤ c'.shuts
  pub splits : c.splits ≤ c'.splits
  pub fulls : c.fulls ≤ c'.fulls
  pub empties : c.empties ≤ c'.empties
  pub puts : c.puts ≤ c'.puts
  pub tends : c.tends ≤ c'.tends

-- calls leave the seat, the schema and the session, and the known list only grows
pub record HasGoneOn (b b' : BoardState) : Type 0 where
  pub seat : b'.seat ≡ b.seat
  pub schema : b'.schema ≡ b.schema
  pub session : b'.word.session ≡ b.word.session
  pub alone : b'.alone ≡ b.alone
  pub per_tend : b'.per_tend ≡ b.per_tend
  pub known : BeginsWith b'.word.known b.word.known
  pub counts : NoneFalls b.counts b'.counts

-- a call that isn't a tend does so, and leaves their count
pub record GoesOn (b b' : BoardState) : Type 0 where
  pub seat : b'.seat ≡ b.seat
  pub schema : b'.schema ≡ b.schema
  pub session : b'.word.session ≡ b.word.session
  pub alone : b'.alone ≡ b.alone
  pub per_tend : b'.per_tend ≡ b.per_tend
  pub known : BeginsWith b'.word.known b.word.known
  pub counts : NoneFalls b.counts b'.counts
  pub tends : b'.counts.tends ≡ b.counts.tends

-- no letter is put or taken
pub record LeavesLetters (b b' : BoardState) : Type 0 where
  pub notes : b'.word.notes ≡ b.word.notes
  pub box : b'.box ≡ b.box
  pub puts : b'.counts.puts ≡ b.counts.puts
  pub fulls : b'.counts.fulls ≡ b.counts.fulls

-- no read was answered, and no entry was refused
pub record LeavesReads (b b' : BoardState) : Type 0 where
  pub reads : b'.counts.reads ≡ b.counts.reads
  pub shuts : b'.counts.shuts ≡ b.counts.shuts

-- all stays, but that the tend is counted, and the rows may have been maintained
abbrev pub Tends : BoardState → BoardState → Type 0
Tends b b' =
    (n : ℕ) × (b.counts.tends ≤ n) × RisesBy b.per_tend b.counts.tends n × (b' ≡ record b { counts = record b.counts { tends = n } })

-- of so many letters that were put, those that lie in shared mailboxes were counted: all of them, or none where the box is told
abbrev pub CountsPuts : Option (List Note) → ℕ → BoardCounts → BoardCounts → Type 0
CountsPuts None put c c' = c'.puts ≡ c.puts + put
CountsPuts (Some box) put c c' = c'.puts ≡ c.puts

-- of the box before and after, where it is told. A board tells its box always, or never
abbrev pub WhereBox : Option (List Note) → Option (List Note) → (List Note → List Note → Type 0) → Type 0
WhereBox None None P = Unit {0}
WhereBox (Some before) (Some after) P = P before after
WhereBox (Some before) None P = ⊥
WhereBox None (Some after) P = ⊥
