-- What a board answers where letters are sent and fetched.
use Rattle.std.specs.Prelude.{◌≡◌, ◌≢◌, ℕ, ◌+◌, true, List, [], ◌∷◌, ◌++◌, length, filter, Option, Some, None, All}
use Rattle.be_base.specs.Counts.{RisesBy}
use Rattle.be_base.specs.declared.names.NoRead.{NoRead}
use Rattle.be_base.specs.declared.names.NoRead.TheVariants.{Shut, NoMemory}
use Rattle.be_model.specs.Lies.{event_lies}
use Rattle.be_model.specs.Letters.{PlainLetter}
use Rattle.be_model.specs.Matching.{Assignments, satisfies}
use Rattle.be_model.specs.Schemas.{Attributes}
use Rattle.be_change.specs.Box.{with_letters}
use Rattle.be_change.specs.History.{Entry, ByIds, is_of, hit_rows, hits}
use Rattle.be_change.specs.Requests.{Note, note}
use Rattle.be_board.specs.declared.answers.Sent.{Sent}
use Rattle.be_board.specs.Word.{Word, IsDelivered}
use Rattle.be_board.specs.State.{BoardState, GoesOn, LeavesReads, CountsPuts, WhereBox}
use Rattle.be_board.specs.Reads.{IsReadAt, Refuses}

-- what a letter says to whom it is for
abbrev pub note_of : PlainLetter → Note
note_of l = note l.n l.row.name l.event

-- the letter is for the session, of a row of its own that the event satisfies, and its event lies in the schema
pub record IsLetterFor (s : Attributes) (k : ℕ) (l : PlainLetter) : Type 0 where
  pub session : l.session ≡ k
  pub owner : l.row.session.0 ≡ k
  pub satisfied : satisfies l.event l.row.conj ≡ true
  pub lies : event_lies s l.event ≡ true

-- SEND leaves what was accepted and what was taken, and tells no two numbers that differ
pub record Sends (b b' : BoardState) : Type 0 where
  pub goes : GoesOn b b'
  pub own : b'.word.own ≡ b.word.own
  pub notes : b'.word.notes ≡ b.word.notes
  pub splits : b'.counts.splits ≡ b.counts.splits
  pub alone : b.alone ≡ true → b'.word.known ≡ b.word.known

-- why SEND was refused: an entry was refused, as to any read; or memory was wanting, before the read or after it, and no
-- entry was refused
abbrev pub RefusesSend : BoardState → BoardState → NoRead → Type 0
RefusesSend b b' Shut = Refuses b b' Shut
RefusesSend b b' NoMemory = b'.counts.shuts ≡ b.counts.shuts

-- of these letters those for rows of session 0 are dropped, and each other dropped one found its mailbox full, which was counted
abbrev pub Drops : BoardState → BoardState → ByIds → ℕ → Type 0
Drops b b' rows dropped = (full : ℕ) × (length (filter (is_of 0) rows) + full ≡ dropped) × RisesBy full b.counts.fulls b'.counts.fulls

-- one letter for each hit of the known list was put or dropped, and a box that is told has grown by those that were put
pub record Posts (b b' : BoardState) (e : Assignments) (sent : Sent) : Type 0 where
  pub read : IsReadAt b b' sent.n
  pub all : sent.put + sent.dropped ≡ length (hits b'.word.known e)
  pub drops : Drops b b' (hit_rows b'.word.known e) sent.dropped
  pub puts : CountsPuts b.box sent.put b.counts b'.counts
  pub box : WhereBox b.box b'.box
      (λ box box'. (box' ≡ with_letters sent.n e (hit_rows b'.word.known e) box) × (length box' ≡ length box + sent.put))

-- letters were taken out of a shared mailbox: a letter that is given is the last of them, and all others are for other sessions
pub record TakesOut (w w' : Word) (given : List PlainLetter) : Type 0 where
  pub passed : List PlainLetter
  pub taken : w'.notes ≡ w.notes ++ (passed ++ given)
  pub others : All (λ (l : PlainLetter). l.session ≢ w.session) passed

-- the first letter of the box was given, or the box is empty
abbrev pub GivesFirst : List Entry → List Note → List Note → Option PlainLetter → Type 0
GivesFirst known box box' None = (box ≡ []) × (box' ≡ [])
GivesFirst known box box' (Some l) = (box ≡ note_of l ∷ box') × IsDelivered known l

abbrev pub given : Option PlainLetter → List PlainLetter
given None = []
given (Some l) = l ∷ []

-- where a letter comes from: a box that is told, or a mailbox that isn't
abbrev pub ComesFrom : BoardState → BoardState → Option (List Note) → Option PlainLetter → Type 0
ComesFrom b b' None l = (b'.box ≡ None) × TakesOut b.word b'.word (given l)
ComesFrom b b' (Some box) l =
    (b'.word.notes ≡ b.word.notes) × (box' : List Note) × (b'.box ≡ Some box') × GivesFirst b.word.known box box' l

-- FETCH leaves what is known, what was accepted, and what was counted but of empty mailboxes
pub record Fetches (b b' : BoardState) (l : Option PlainLetter) : Type 0 where
  pub goes : GoesOn b b'
  pub known : b'.word.known ≡ b.word.known
  pub own : b'.word.own ≡ b.word.own
  pub puts : b'.counts.puts ≡ b.counts.puts
  pub fulls : b'.counts.fulls ≡ b.counts.fulls
  pub reads : LeavesReads b b'
  pub splits : b'.counts.splits ≡ b.counts.splits
  pub from : ComesFrom b b' b.box l
