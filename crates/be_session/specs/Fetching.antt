-- Letters that were taken and written so far, in answer to one FETCH.
use Rattle.std.specs.Prelude.{◌≡◌, ℕ, ◌≤◌, ◌==◌, List, ◌++◌, length, map, filter, All, Option, Some, None}
use Rattle.std.specs.List.{flat_map}
use Rattle.be_io.specs.Told.{HoldsMore}
use Rattle.be_io.specs.Sink.{SinkState}
use Rattle.be_model.specs.Letters.{PlainLetter}
use Rattle.be_model.specs.Schemas.{Attributes}
use Rattle.be_change.specs.History.{Entry}
use Rattle.be_change.specs.Requests.{Note}
use Rattle.be_change.specs.Walk.{IsNoteFor}
use Rattle.be_protocol.specs.Replies.{note_line, with_lf}
use Rattle.be_board.specs.Letters.{note_of}
use Rattle.be_board.specs.State.{BoardState, GoesOn, LeavesReads}
use Rattle.be_session.specs.Bearing.{Bears}

-- the lines of these letters
abbrev pub note_lines : Attributes → List Note → List ℕ
note_lines s letters = flat_map (λ (l : Note). with_lf (note_line s l)) letters

-- where they came from: a mailbox that isn't told, or this box, in which the others are left
abbrev pub Draws : Option (List Note) → List Note → BoardState → BoardState → Type 0
Draws None given b now =
    (now.box ≡ None) × (taken : List PlainLetter) × (now.word.notes ≡ b.word.notes ++ taken)
    × (given ≡ map note_of (filter (λ (l : PlainLetter). l.session == b.word.session) taken))
Draws (Some box) given b now =
    (now.word.notes ≡ b.word.notes) × (left : List Note) × (now.box ≡ Some left) × (box ≡ given ++ left)

-- so many letters were taken, of at most max, and each was written whole
pub record FetchesSo (s : Attributes) (max count : ℕ) (b now : BoardState) (before after : SinkState) : Type 0 where
  pub given : List Note
  pub many : length given ≡ count
  pub few : count ≤ max
  pub written : HoldsMore before.held after.held (note_lines s given)
  pub faults : after.faults ≡ before.faults
  pub refusals : after.refusals ≡ before.refusals
  pub goes : GoesOn b now
  pub known : now.word.known ≡ b.word.known
  pub own : now.word.own ≡ b.word.own
  pub puts : now.counts.puts ≡ b.counts.puts
  pub reads : LeavesReads b now
  pub splits : now.counts.splits ≡ b.counts.splits
  pub noted : (h : List Entry) → Bears h now.word → All (IsNoteFor b.word.session h) given
  pub from : Draws b.box given b now
